-- Walks, one standing at a time.
use Rattle.std.proofs.Common.{◌≡◌, ℕ, zero, suc, ◌+◌, ◌<◌, true, false, List, [], ◌∷◌, ◌++◌, length, get_or, take}
use Rattle.std.proofs.Common.{drop, Some, None, refl, sym, ap, subst, arith, ◌∙◌, eqb, eq-eqb}
use Rattle.std.proofs.lemmas.Bool.{eqb-true}
use Rattle.std.proofs.lemmas.List.{take_more}
use Rattle.std.proofs.lemmas.List.Folds.{Any-from_list_any, list_any-from_Any}
use Rattle.std.specs.Prelude.{Any, Contains}
use Rattle.std.specs.List.{list_any}
use Rattle.mw_text.proofs.Lists.{drop-read}
use Rattle.question_lang.specs.declared.question.Start.{Start}
use Rattle.question_lang.specs.declared.walk.End.{End}
use Rattle.question_lang.specs.declared.walk.Hop.{Hop}
use Rattle.question_lang.specs.declared.walk.Hop.TheVariants.{To}
use Rattle.question_lang.specs.Walks.{GoesOn, LeadsTo, MayEnd}
use Rattle.walk_def.specs.Going.{LeadsIn}

-- nothing leads to a standing without an interface
pub not_without : (own : List Hop) (to : Start) → to.iface ≡ None → LeadsIn own to → ⊥
not_without own to none (at, is, has) = cc

-- it leads in at that interface alone
pub not_in : (own : List Hop) (to : Start) (at : ℕ) → to.iface ≡ Some at →
    (Contains own (To (record { router = to.router; at = at })) → ⊥) → LeadsIn own to → ⊥
not_in own to at here without (other, is, has) =
    let same : other ≡ at = cc in
    let P : ℕ → Type 0 = λ k. Contains own (To (record { router = to.router; at = k })) in without (subst P same has)

-- a walk stood at the router
pub stood : (before : List Start) (router : ℕ) → list_any (λ s. eqb s.router router) before ≡ true →
    Any (λ s. s.router ≡ router) before
stood before router found =
    let (k, s, within, is, same) = Any-from_list_any (λ s. eqb s.router router) before found in
    (k, s, within, is, eqb-true s.router router same)

pub not_stood : (before : List Start) (router : ℕ) → list_any (λ s. eqb s.router router) before ≡ false →
    Any (λ s. s.router ≡ router) before → ⊥
not_stood before router none (k, s, within, is, same) =
    let found = list_any-from_Any (λ s. eqb s.router router) before (k, s, within, is, eq-eqb s.router router same) in
    cc

-- what is left of a walk, at a place: it stood before, and goes on so
abbrev pub GoesFrom : (ℕ → List Hop) → List Start → End → ℕ → Type 0
GoesFrom hops standings end at = GoesOn hops (take at standings) (drop at standings) end

-- the next standing is led to, and the rest goes on
pub one_led : (hops : ℕ → List Hop) (standings : List Start) (end : End) (at : ℕ) (now then : Start) → at
    + 1 < length standings →
    now ≡ get_or standings at now → then ≡ get_or standings (at + 1) then → GoesFrom hops standings end at →
    LeadsTo hops now then × GoesFrom hops standings end (at + 1)
one_led hops standings end at now then within here next goes =
    let rest = drop (at + 1 + 1) standings in
    let first : drop at standings ≡ now
    ∷ drop (at + 1) standings = drop-read standings at now (omega (arith, within)) here in
    let second : drop (at + 1) standings ≡ then ∷ rest = drop-read standings (at + 1) then within next in
    let more : take (at + 1) standings ≡ take at standings ++ now ∷ [] =
    take_more standings at now (omega (arith, within)) ∙ ap (λ x. take at standings ++ x ∷ []) (sym here) in
    let P : List Start → Type 0 = λ xs. GoesOn hops (take at standings) xs end in
    let Q : List Start → Type 0 = λ xs. GoesOn hops xs (then ∷ rest) end in
    let R : List Start → Type 0 = λ xs. GoesOn hops (take (at + 1) standings) xs end in
    let opened : GoesOn hops (take at standings) (now ∷ then ∷ rest) end =
    subst P (first ∙ ap (λ xs. now ∷ xs) second) goes in
    (opened.0, subst R (sym second) (subst Q (sym more) opened.1))

pub one_more : (hops : ℕ → List Hop) (standings : List Start) (end : End) (at : ℕ) (now then : Start) → at
    + 1 < length standings →
    now ≡ get_or standings at now → then ≡ get_or standings (at + 1) then → LeadsTo hops now then →
    GoesFrom hops standings end (at + 1) → GoesFrom hops standings end at
one_more hops standings end at now then within here next leads goes =
    let rest = drop (at + 1 + 1) standings in
    let first : drop at standings ≡ now
    ∷ drop (at + 1) standings = drop-read standings at now (omega (arith, within)) here in
    let second : drop (at + 1) standings ≡ then ∷ rest = drop-read standings (at + 1) then within next in
    let more : take (at + 1) standings ≡ take at standings ++ now ∷ [] =
    take_more standings at now (omega (arith, within)) ∙ ap (λ x. take at standings ++ x ∷ []) (sym here) in
    let P : List Start → Type 0 = λ xs. GoesOn hops (take at standings) xs end in
    let Q : List Start → Type 0 = λ xs. GoesOn hops xs (then ∷ rest) end in
    let R : List Start → Type 0 = λ xs. GoesOn hops (take (at + 1) standings) xs end in
    let opened : GoesOn hops (take at standings ++ now ∷ []) (then ∷ rest) end = subst Q more (subst R second goes) in
    subst P (sym (first ∙ ap (λ xs. now ∷ xs) second)) (leads, opened)

-- at the last standing the end decides
last-left : (standings : List Start) (at : ℕ) (now : Start) → at + 1 ≡ length standings → now
    ≡ get_or standings at now →
    drop at standings ≡ now ∷ []
last-left standings at now last here =
    drop-read standings at now (omega (arith, last)) here ∙ ap (λ xs. now ∷ xs) (nothing (at + 1) standings last)
  where
    nothing : (k : ℕ) (xs : List Start) → k ≡ length xs → drop k xs ≡ []
    nothing k [] h = let none : k ≡ 0 = h in rw none refl
    nothing zero (x ∷ xs) h = absurd (omega (arith, h))
    nothing (suc k) (x ∷ xs) h = nothing k xs (omega (arith, h))

pub may_at_end : (hops : ℕ → List Hop) (standings : List Start) (end : End) (at : ℕ) (now : Start) → at + 1
    ≡ length standings →
    now ≡ get_or standings at now → GoesFrom hops standings end at → MayEnd hops (take at standings) now end
may_at_end hops standings end at now last here goes =
    let P : List Start → Type 0 = λ xs. GoesOn hops (take at standings) xs end in
    subst P (last-left standings at now last here) goes

pub ends_at_last : (hops : ℕ → List Hop) (standings : List Start) (end : End) (at : ℕ) (now : Start) → at + 1
    ≡ length standings →
    now ≡ get_or standings at now → MayEnd hops (take at standings) now end → GoesFrom hops standings end at
ends_at_last hops standings end at now last here may =
    let P : List Start → Type 0 = λ xs. GoesOn hops (take at standings) xs end in
    subst P (sym (last-left standings at now last here)) may
