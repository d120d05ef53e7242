-- Members of a list that pass a test.
use Rattle.std.proofs.Common.{◌≡◌, inl, inr, ◌||◌, Bool, true, false, List, [], ◌∷◌, map, filter, cond}
use Rattle.std.proofs.Common.{Some, refl, sym, ap, ◌∙◌}
use Rattle.std.specs.List.{find, list_any}
use Rattle.std.proofs.lemmas.Option.{same_Some}
use Rattle.mw_text.specs.Members.{In}

-- a member that passes is among those that do
pub filter-in : {X : Type 0} (p : X → Bool) (xs : List X) (x : X) → In x xs → p x ≡ true → In x (filter p xs)
filter-in p [] x there passes = absurd there
filter-in {X} p (y ∷ ys) x (inl same) passes = by (p y) (sym (ap p same) ∙ passes) where
  by : (b : Bool) → b ≡ true → In x (cond b (y ∷ filter p ys) (filter p ys))
  by true is = inl same
  by false is = absurd cc
filter-in {X} p (y ∷ ys) x (inr later) passes = by (p y) (filter-in p ys x later passes) where
  by : (b : Bool) → In x (filter p ys) → In x (cond b (y ∷ filter p ys) (filter p ys))
  by true there = inr there
  by false there = there

-- the one that is found is a member
pub in-find : {X : Type 0} (p : X → Bool) (xs : List X) (x : X) → find p xs ≡ Some x → In x xs
in-find p [] x found = absurd cc
in-find {X} p (y ∷ ys) x found = by (p y) found (in-find p ys x) where
  by : (b : Bool) → cond b (Some y) (find p ys) ≡ Some x → (find p ys ≡ Some x → In x ys) → In x (y ∷ ys)
  by true is rest = inl (sym (same_Some y x is))
  by false is rest = inr (rest is)

-- a test of what is made of the items is one of the items
pub any_mapped : {X Y : Type 0} (p : Y → Bool) (f : X → Y) (xs : List X) →
    list_any p (map f xs) ≡ list_any (λ x. p (f x)) xs
any_mapped p f [] = refl
any_mapped p f (x ∷ xs) = ap (λ b. p (f x) || b) (any_mapped p f xs)
