-- A round that changes nothing is the last that changes anything.
use Rattle.std.proofs.Common.{◌≡◌, ℕ, zero, suc, ◌≤◌, Bool, eqb, List, Option, Some, None, map, inl, inr, arith, refl}
use Rattle.std.proofs.Common.{sym, ap, subst, ◌∙◌}
use Rattle.std.specs.Bool.{Decides}
use Rattle.std.specs.Cmp.Lexicographic.{pointwise}
use Rattle.std.specs.Option.{option_eq}
use Rattle.std.proofs.lemmas.Bool.Decides.{Decides-eqb}
use Rattle.std.proofs.lemmas.Option.{same_Some}
use Rattle.std.proofs.lemmas.Slice.Eq.{slice_eq-Decides}
use Rattle.std.proofs.lemmas.Bool.{cases_lt}
use Rattle.proto_ospf.specs.declared.rounds.Receiver.{Receiver}
use Rattle.proto_ospf.specs.Rounds.{nearest, rounds}

pub rounds_stay : (own : List (Option ℕ)) (receivers : List Receiver) (before : List (Option ℕ)) (k most : ℕ) →
    before ≡ rounds own receivers k → map (nearest own before) receivers ≡ before → k ≤ most
    → rounds own receivers most ≡ before
rounds_stay own receivers before k zero is fixed within =
    let same : k ≡ 0 = omega (arith, within) in
    let P : ℕ → Type 0 = λ n. rounds own receivers n ≡ before in subst P same (sym is)
rounds_stay own receivers before k (suc most) is fixed within = elim (cases_lt most k) [
  | inl last ↦ let same : k ≡ suc most = omega (arith, within, last) in
      let P : ℕ → Type 0 = λ n. rounds own receivers n ≡ before in subst P same (sym is)
  | inr earlier ↦
      ap (λ ds. map (nearest own ds) receivers) (rounds_stay own receivers before k most is fixed earlier) ∙ fixed
]

options_decide : (a b : Option ℕ) → Decides (option_eq eqb a b) (a ≡ b)
options_decide None None = (λ _. refl, λ _. refl)
options_decide None (Some b) = (λ h. cc, λ h. cc)
options_decide (Some a) None = (λ h. cc, λ h. cc)
options_decide (Some a) (Some b) =
    (λ h. ap Some ((Decides-eqb a b).0 h), λ h. (Decides-eqb a b).1 (same_Some a b h))

-- the test of two lists of distances
pub same_lists : (xs ys : List (Option ℕ)) (r : Bool) → r ≡ pointwise (option_eq eqb) xs ys → Decides r (xs ≡ ys)
same_lists xs ys r is = slice_eq-Decides options_decide xs ys r is
