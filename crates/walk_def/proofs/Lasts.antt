-- The last of some standings, and routers that none is at.
use Rattle.std.proofs.Common.{◌≡◌, ◌≢◌, ℕ, ◌+◌, ◌-◌, ◌<◌, true, false, List, [], ◌∷◌, ◌++◌, length, get_or, take, sym}
use Rattle.std.proofs.Common.{ap, subst, arith, ◌∙◌, eqb, eq-eqb}
use Rattle.std.proofs.lemmas.List.{take_more}
use Rattle.std.proofs.Math.Seq.{take-length}
use Rattle.std.specs.Prelude.{All}
use Rattle.std.specs.List.{AllByRecursion, list_any}
use Rattle.std.proofs.lemmas.List.Elements.{All-contains, All-from_recursion}
use Rattle.std.proofs.lemmas.List.Folds.{Any-from_list_any}
use Rattle.std.proofs.lemmas.Bool.{eqb-true, or_parts}
use Rattle.question_lang.specs.declared.question.Start.{Start}
use Rattle.walk_def.proofs.Members.{last-same}
use Rattle.walk_def.specs.Arriving.{LastIn}

-- without standings there is no last
pub no_last : (P : ℕ → Type 0) (standings : List Start) → standings ≡ [] → LastIn P standings → ⊥
no_last P standings none ([], last, same, holds) = cc
no_last P standings none (x ∷ front, last, same, holds) = cc

read_last : (standings : List Start) (last : Start) → 0 < length standings → last
    ≡ get_or standings (length standings - 1) last →
    standings ≡ take (length standings - 1) standings ++ last ∷ []
read_last standings last some is =
    let at = length standings - 1 in
    let more : take (at + 1) standings ≡ take at standings ++ get_or standings at last
    ∷ [] = take_more standings at last (omega (arith, some)) in
    let all : at + 1 ≡ length standings = omega (arith, some) in
    sym (take-length standings) ∙ ap (λ n. take n standings) (sym all) ∙ more
    ∙ ap (λ x. take at standings ++ x ∷ []) (sym is)

-- what holds of the last one that was read
pub last_in : (P : ℕ → Type 0) (standings : List Start) (last : Start) → 0 < length standings →
    last ≡ get_or standings (length standings - 1) last → P last.router → LastIn P standings
last_in P standings last some is holds =
    (take (length standings - 1) standings, last, read_last standings last some is, holds)

-- what does not hold of it
pub not_last : (P : ℕ → Type 0) (standings : List Start) (last : Start) → 0 < length standings →
    last ≡ get_or standings (length standings - 1) last → (P last.router → ⊥) → LastIn P standings → ⊥
not_last P standings last some is without (front, other, same, holds) =
    let is_last : other ≡ last =
    last-same front (take (length standings - 1) standings) other last (sym same ∙ read_last standings last some is) in
    without (subst (λ s. P s.router) is_last holds)

avoided : (via : ℕ) (standings : List Start) → list_any (λ s. eqb s.router via) standings ≡ false →
    AllByRecursion (λ s. s.router ≢ via) standings
avoided via [] none = tt
avoided via (s ∷ rest) none =
    let parts = or_parts (eqb s.router via) (list_any (λ x. eqb x.router via) rest) none in
    (λ same. let here = eq-eqb s.router via same in let none_here = parts.0 in cc, avoided via rest parts.1)

-- no standing is at the router
pub all_avoid : (via : ℕ) (standings : List Start) → list_any (λ s. eqb s.router via) standings ≡ false →
    All (λ s. s.router ≢ via) standings
all_avoid via standings none = All-from_recursion _ standings (avoided via standings none)

-- one is
pub not_avoiding : (via : ℕ) (standings : List Start) → list_any (λ s. eqb s.router via) standings ≡ true →
    All (λ s. s.router ≢ via) standings → ⊥
not_avoiding via standings some all =
    let (k, s, within, is, same) = Any-from_list_any (λ s. eqb s.router via) standings some in
    All-contains (λ x. x.router ≢ via) standings s all (k, within, is) (eqb-true s.router via same)
