-- Lists by their places, for the loops of the crates above.
use Rattle.std.proofs.Common.{◌≡◌, ℕ, zero, suc, ◌+◌, ◌<◌, Bool, true, false, eqb, List, [], ◌∷◌, ◌++◌, length}
use Rattle.std.proofs.Common.{drop, get_or, Some, refl, ap, sym, arith, add-one, subst, ◌∙◌, inl, inr}
use Rattle.std.specs.Prelude.{All, filter, flat_map, nat_lt, slice_get, ◌⊎◌}
use Rattle.std.specs.Bool.{beq}
use Rattle.std.specs.List.{AllByRecursion, list_all, list_any}
use Rattle.std.proofs.lemmas.Bool.{and_parts, eqb-true, lt-ltb, ltb-true, or_cases, or_parts}
use Rattle.std.proofs.lemmas.List.Elements.{All-append, All-head, All-nil, All-tail}
use Rattle.std.proofs.Math.Seq.{drop-cons}
use Rattle.mw_text.specs.Members.{In, all_below}

-- the items from a place on begin with the item that was read there
pub drop-read : {A : Type 0} (xs : List A) (i : ℕ) (x : A) → i < length xs → x ≡ get_or xs i x →
    drop i xs ≡ x ∷ drop (i + 1) xs
drop-read xs i x within is =
    drop-cons xs i x within ∙ ap (λ y. y ∷ drop (suc i) xs) (sym is) ∙ ap (λ n. x ∷ drop n xs) (sym (add-one i))

-- one more item at the end, which has the fact of its place
pub each_place-push : {A : Type 0} (P : ℕ → A → Type 0) (xs : List A) (x : A) →
    ((k : ℕ) (y : A) → slice_get xs k ≡ Some y → P k y) → P (length xs) x →
    (k : ℕ) (y : A) → slice_get (xs ++ x ∷ []) k ≡ Some y → P k y
each_place-push {A} P [] x before here zero y e =
    let same : x ≡ y = cc in
    let Q : A → Type 0 = λ w. P 0 w in subst Q same here
each_place-push P [] x before here (suc k) y e = cc
each_place-push P (z ∷ zs) x before here zero y e = before zero y e
each_place-push P (z ∷ zs) x before here (suc k) y e =
    each_place-push (λ j. P (suc j)) zs x (λ j w found. before (suc j) w found) here k y e

-- two lists of one length whose items agree are one list
pub list_ext : {A : Type 0} (xs ys : List A) → length xs ≡ length ys →
    ((k : ℕ) (x y : A) → slice_get xs k ≡ Some x → slice_get ys k ≡ Some y → x ≡ y) → xs ≡ ys
list_ext [] [] same agree = refl
list_ext [] (y ∷ ys) same agree = absurd (omega arith)
list_ext (x ∷ xs) [] same agree = absurd (omega arith)
list_ext (x ∷ xs) (y ∷ ys) same agree =
    let tail : xs ≡ ys = list_ext xs ys (omega arith) (λ k. agree (suc k)) in
    let head : x ≡ y = agree zero x y refl refl in cc

-- a list has an item at each place below its length
pub item_there : {A : Type 0} (xs : List A) (k : ℕ) → k < length xs → (x : A) × (slice_get xs k ≡ Some x)
item_there [] k within = absurd (omega arith)
item_there (x ∷ xs) zero within = (x, refl)
item_there (x ∷ xs) (suc k) within = item_there xs k (omega arith)

-- where a test is true of all items, it is of the item at a place
pub all_at : {A : Type 0} (p : A → Bool) (xs : List A) (k : ℕ) (x : A) → list_all p xs ≡ true → slice_get xs k ≡ Some x
    → p x ≡ true
all_at p [] k x all found = absurd cc
all_at p (y ∷ ys) zero x all found =
    let same : y ≡ x = cc in ap p (sym same) ∙ (and_parts (p y) (list_all p ys) all).0
all_at p (y ∷ ys) (suc k) x all found = all_at p ys k x (and_parts (p y) (list_all p ys) all).1 found

-- a number that is not in a list differs from each in it
pub none_equal : (x : ℕ) (xs : List ℕ) → list_any (eqb x) xs ≡ false → AllByRecursion (λ y. eqb x y ≡ false) xs
none_equal x [] none = tt
none_equal x (y ∷ ys) none =
    let both = or_parts (eqb x y) (list_any (eqb x) ys) none in (both.0, none_equal x ys both.1)

-- where no item passes, none is left
pub filter_none : {A : Type 0} (p : A → Bool) (xs : List A) → All (λ x. p x ≡ false) xs → filter p xs ≡ []
filter_none p [] none = refl
filter_none p (x ∷ xs) none =
    rw (All-head (λ y. p y ≡ false) x xs none) (filter_none p xs (All-tail (λ y. p y ≡ false) x xs none))

-- a number below one that is below a third is below it
pub below_below : (a b c : ℕ) → nat_lt a b ≡ true → nat_lt b c ≡ true → nat_lt a c ≡ true
below_below a b c first then = lt-ltb a c (omega (arith, ltb-true a b first, ltb-true b c then))

-- an item of a list of which all have a fact
pub all_found : {A : Type 0} (P : A → Type 0) (xs : List A) (k : ℕ) (x : A) → All P xs → slice_get xs k ≡ Some x → P x
all_found P [] k x all found = absurd cc
all_found P (y ∷ ys) zero x all found =
    let same : y ≡ x = cc in
    subst P same (All-head P y ys all)
all_found P (y ∷ ys) (suc k) x all found = all_found P ys k x (All-tail P y ys all) found

-- what holds of each list that is joined holds of the whole
pub all_flat_map : {X Y : Type 0} (P : X → Type 0) (Q : Y → Type 0) (f : X → List Y) (xs : List X) →
    ((x : X) → P x → All Q (f x)) → All P xs → All Q (flat_map f xs)
all_flat_map P Q f [] gives all = All-nil Q
all_flat_map P Q f (x ∷ xs) gives all =
    All-append Q (f x) (flat_map f xs) (gives x (All-head P x xs all))
    (all_flat_map P Q f xs gives (All-tail P x xs all))

-- signs that are the same are equal
pub beq-true : (a b : Bool) → beq a b ≡ true → a ≡ b
beq-true true true h = refl
beq-true true false h = sym h
beq-true false true h = h
beq-true false false h = refl

pub beq-refl : (a : Bool) → beq a a ≡ true
beq-refl true = refl
beq-refl false = refl

-- ---- numbers below a bound

-- a test that all numbers below a bound pass is passed by each
pub below_at : (f : ℕ → Bool) (n k : ℕ) → all_below f n ≡ true → k < n → f k ≡ true
below_at f zero k all within = absurd (omega arith)
below_at f (suc n) k all within = by_order (cases_last k n within) (λ below. below_at f n k parts.0 below) where
  parts : (all_below f n ≡ true) × (f n ≡ true)
  parts = and_parts (all_below f n) (f n) all

  cases_last : (k n : ℕ) → k < suc n → (k < n) ⊎ (k ≡ n)
  cases_last k n within = grind arith

  by_order : (k < n) ⊎ (k ≡ n) → (k < n → f k ≡ true) → f k ≡ true
  by_order (inl below) deeper = deeper below
  by_order (inr last) deeper = ap f last ∙ parts.1

-- ---- members

-- a number that a test finds is a member
pub in-from_any : (p : ℕ) (xs : List ℕ) → list_any (eqb p) xs ≡ true → In p xs
in-from_any p [] h = absurd cc
in-from_any p (x ∷ xs) h = elim (or_cases (eqb p x) (list_any (eqb p) xs) h) [
  | inl e ↦ inl (eqb-true p x e)
  | inr e ↦ inr (in-from_any p xs e)
]

-- ---- items at places

-- an item stays where it is when more are put last
pub item_before : {A : Type 0} (front rest : List A) (k : ℕ) (x : A) → slice_get front k ≡ Some x →
    slice_get (front ++ rest) k ≡ Some x
item_before [] rest k x there = absurd cc
item_before (y ∷ front) rest zero x there = there
item_before (y ∷ front) rest (suc k) x there = item_before front rest k x there

-- where none passes a test, the item at a place does not
pub none_passes : {A : Type 0} (p : A → Bool) (xs : List A) (k : ℕ) (x : A) → list_any p xs ≡ false →
    slice_get xs k ≡ Some x → p x ≡ false
none_passes p [] k x none there = absurd cc
none_passes p (y ∷ rest) zero x none there =
    let same : y ≡ x = cc in ap p (sym same) ∙ (or_parts (p y) (list_any p rest) none).0
none_passes p (y ∷ rest) (suc k) x none there = none_passes p rest k x (or_parts (p y) (list_any p rest) none).1 there
