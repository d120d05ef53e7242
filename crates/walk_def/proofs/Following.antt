-- Following hops gives a walk.
use Rattle.std.proofs.Common.{◌≡◌, ℕ, List, [], ◌∷◌, ◌++◌, refl, sym, ◌∙◌, subst, append_assoc}
use Rattle.question_lang.specs.declared.question.Start.{Start}
use Rattle.question_lang.specs.declared.walk.End.{End}
use Rattle.question_lang.specs.declared.walk.Hop.{Hop}
use Rattle.question_lang.specs.Walks.{GoesOn, LeadsTo}

-- what goes on from the present standing is a walk from the start
abbrev pub Followed : (ℕ → List Hop) → List Start → Start → Type 0
Followed hops stood now = (rest : List Start) (end : End) → GoesOn hops stood (now ∷ rest) end
    → GoesOn hops [] (stood ++ now ∷ rest) end

-- the first standing is the start
abbrev pub Begun : Start → List Start → Start → Type 0
Begun start stood now = (rest : List Start) → (more : List Start) × (stood ++ now ∷ rest ≡ start ∷ more)

pub followed-start : (hops : ℕ → List Hop) (start : Start) → Followed hops [] start
followed-start hops start rest end goes = goes

pub begun-start : (start : Start) → Begun start [] start
begun-start start rest = (rest, refl)

pub followed-step : (hops : ℕ → List Hop) (stood : List Start) (now then : Start) → Followed hops stood now
    → LeadsTo hops now then →
    Followed hops (stood ++ now ∷ []) then
followed-step hops stood now then so_far leads rest end goes =
    let P : List Start → Type 0 = λ standings. GoesOn hops [] standings end in
    let same : (stood ++ now ∷ []) ++ then ∷ rest ≡ stood ++ now ∷ then
    ∷ rest = append_assoc stood (now ∷ []) (then ∷ rest) in
    subst P (sym same) (so_far (then ∷ rest) end (leads, goes))

pub begun-step : (start : Start) (stood : List Start) (now then : Start) → Begun start stood now
    → Begun start (stood ++ now ∷ []) then
begun-step start stood now then begun rest =
    let same : (stood ++ now ∷ []) ++ then ∷ rest ≡ stood ++ now ∷ then
    ∷ rest = append_assoc stood (now ∷ []) (then ∷ rest) in
    let before = begun (then ∷ rest) in (before.0, same ∙ before.1)
