-- Members of lists, as members of what is made of them.
use Rattle.std.proofs.Common.{◌≡◌, Bool, true, false, ◌||◌, List, [], ◌∷◌, map, Some, inl, inr}
use Rattle.std.proofs.Common.{refl, sym, ap, subst, arith, ◌∙◌, length, slice_get, ℕ, zero, suc}
use Rattle.std.specs.Prelude.{◌==◌, All, if◌then◌else◌}
use Rattle.std.specs.List.{flat_map, list_any}
use Rattle.std.proofs.lemmas.List.Elements.{All-cons, All-nil}
use Rattle.std.proofs.lemmas.Bool.{eqb-true}
use Rattle.std.proofs.lemmas.Option.{same_Some}
use Rattle.mw_text.specs.Members.{In}
use Rattle.ios_ast.specs.Deciding.{in_order, put_by}
use Rattle.std.specs.Prelude.{nat_le}
use Rattle.net_parts.proofs.LeastWalks.{in-left, in-right}

pub map-in : {X Y : Type 0} (f : X → Y) (xs : List X) (x : X) → In x xs → In (f x) (map f xs)
map-in f [] x there = absurd there
map-in f (y ∷ ys) x (inl same) = inl (ap f same)
map-in f (y ∷ ys) x (inr later) = inr (map-in f ys x later)

pub flat_map-in : {X Y : Type 0} (f : X → List Y) (xs : List X) (x : X) (y : Y) → In x xs → In y (f x) →
    In y (flat_map f xs)
flat_map-in f [] x y there here = absurd there
flat_map-in f (z ∷ xs) x y (inl same) here =
    in-left y (f z) (flat_map f xs) (subst (λ w. In y (f w)) same here)
flat_map-in f (z ∷ xs) x y (inr later) here =
    in-right y (f z) (flat_map f xs) (flat_map-in f xs x y later here)

-- the item at a place is a member
pub in-place : {X : Type 0} (xs : List X) (k : ℕ) (x : X) → slice_get xs k ≡ Some x → In x xs
in-place [] k x there = absurd cc
in-place (y ∷ ys) zero x there = inl (sym (same_Some y x there))
in-place (y ∷ ys) (suc k) x there = inr (in-place ys k x there)

-- where a test is true of some member there is such a member
pub in-any : {X : Type 0} (p : X → Bool) (xs : List X) → list_any p xs ≡ true → (x : X) × In x xs × (p x ≡ true)
in-any p [] some = absurd cc
in-any {X} p (y ∷ ys) some = by (p y) refl some (in-any p ys) where
  by : (b : Bool) → p y ≡ b → (b || list_any p ys) ≡ true →
      (list_any p ys ≡ true → (x : X) × In x ys × (p x ≡ true)) → (x : X) × In x (y ∷ ys) × (p x ≡ true)
  by true is some' rest = (y, inl refl, is)
  by false is some' rest = let found = rest some' in (found.0, inr found.1, found.2)

-- and where a member passes some passes
pub any-in : {X : Type 0} (p : X → Bool) (xs : List X) (x : X) → In x xs → p x ≡ true → list_any p xs ≡ true
any-in p [] x there passes = absurd there
any-in p (y ∷ ys) x (inl same) passes = rw (sym (ap p same) ∙ passes) refl
any-in p (y ∷ ys) x (inr later) passes = or_later (p y) (list_any p ys) (any-in p ys x later passes) where
  or_later : (a b : Bool) → b ≡ true → (a || b) ≡ true
  or_later true b is = refl
  or_later false b is = is

-- what is true of each member is true of all
pub all-from-in : {X : Type 0} (P : X → Type 0) (xs : List X) → ((x : X) → In x xs → P x) → All P xs
all-from-in P [] each = All-nil P
all-from-in P (x ∷ xs) each =
    All-cons P x xs (each x (inl refl)) (all-from-in P xs (λ y there. each y (inr there)))

-- ordering by numbers brings in no other
put-in : {E : Type 0} (number : E → ℕ) (e : E) (xs : List E) (x : E) → In x (put_by number e xs) → In x (e ∷ xs)
put-in number e [] x there = there
put-in {E} number e (y ∷ ys) x there = by (nat_le (number e) (number y)) there (put-in number e ys x) where
  by : (b : Bool) → In x (if b then e ∷ y ∷ ys else y ∷ put_by number e ys) →
      (In x (put_by number e ys) → In x (e ∷ ys)) → In x (e ∷ y ∷ ys)
  by true here rest = here
  by false (inl same) rest = inr (inl same)
  by false (inr later) rest = elim (rest later) [ inl first ↦ inl first | inr behind ↦ inr (inr behind) ]

pub ordered-in : {E : Type 0} (number : E → ℕ) (es : List E) (x : E) → In x (in_order number es) → In x es
ordered-in number [] x there = there
ordered-in number (e ∷ es) x there = elim (put-in number e (in_order number es) x there) [
  | inl first ↦ inl first
  | inr behind ↦ inr (ordered-in number es x behind)
]

-- a list with a member is not empty
pub not_empty : {X : Type 0} (xs : List X) (x : X) → In x xs → (length xs == 0) ≡ false
not_empty [] x there = absurd there
not_empty (y ∷ ys) x there = by (suc (length ys) == 0) refl where
  by : (b : Bool) → (suc (length ys) == 0) ≡ b → b ≡ false
  by false is = refl
  by true is = let same = eqb-true (suc (length ys)) 0 is in absurd (omega (arith, same))
