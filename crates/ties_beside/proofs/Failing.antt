-- Which numbers stand among the positions of the values that are true.
use Rattle.std.proofs.Common.{◌≡◌, ℕ, zero, suc, ◌+◌, ◌<◌, Bool, true, false}
use Rattle.std.proofs.Common.{List, [], ◌∷◌, Contains, arith, get_or, refl, sym, ◌∙◌}
use Rattle.std.specs.Prelude.{◌==◌, nat_eq}
use Rattle.std.specs.List.{list_any}
use Rattle.std.proofs.lemmas.Bool.{eq-eqb, eqb-true}
use Rattle.std.proofs.lemmas.Bool.Decides.{nat_tests}
use Rattle.std.proofs.lemmas.Cmp.{nat_eq_equiv}
use Rattle.std.proofs.lemmas.List.{get_or_past}
use Rattle.std.proofs.lemmas.Map.Views.{Contains-from_any, list_any-from_Contains}
use Rattle.mw_text.proofs.Numbers.{apart}
use Rattle.sym_policy.specs.Held.{positions}

unlike_more : (a b : ℕ) → a < b → (a == b) ≡ false
unlike_more a b less = grind (arith, nat_tests)

none_at : (q : ℕ) (bs : List Bool) (first : ℕ) → q < first → list_any (nat_eq q) (positions first bs) ≡ false
none_at q [] first less = refl
none_at q (true ∷ bs) first less = rw (unlike_more q first less) (none_at q bs (suc first) (omega (arith, less)))
none_at q (false ∷ bs) first less = none_at q bs (suc first) (omega (arith, less))

any_at : (q : ℕ) (bs : List Bool) (n first : ℕ) → q ≡ first + n →
    list_any (nat_eq q) (positions first bs) ≡ get_or bs n false
any_at q [] n first is = sym (get_or_past [] n false (omega arith))
any_at q (true ∷ bs) zero first is = rw (eq-eqb q first (omega (arith, is))) refl
any_at q (false ∷ bs) zero first is = none_at q bs (suc first) (omega (arith, is))
any_at q (true ∷ bs) (suc n) first is =
    rw (apart q first (omega (arith, is))) (any_at q bs n (suc first) (omega (arith, is)))
any_at q (false ∷ bs) (suc n) first is = any_at q bs n (suc first) (omega (arith, is))

-- a value that is true has its number there
pub stands_there : (bs : List Bool) (n : ℕ) → get_or bs n false ≡ true → Contains (positions 0 bs) n
stands_there bs n holds =
    Contains-from_any (λ x y same. eqb-true x y same) n (positions 0 bs) (any_at n bs n 0 (omega arith) ∙ holds)

-- and no other
pub holds_there : (bs : List Bool) (n : ℕ) → Contains (positions 0 bs) n → get_or bs n false ≡ true
holds_there bs n there =
    sym (any_at n bs n 0 (omega arith)) ∙ list_any-from_Contains nat_eq_equiv n (positions 0 bs) there
