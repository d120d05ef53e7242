-- The first item that passes a test, what is said of all items by a test or a fact, and options that a call gives.
use Rattle.std.proofs.Common.{◌≡◌, ℕ, zero, suc, ◌+◌, ◌<◌, ◌||◌, Bool, true, false, List, [], ◌∷◌, ◌++◌}
use Rattle.std.proofs.Common.{length, take, get_or, map, Option, Some, None, refl, sym, ap, ◌∙◌, subst, arith, add-one}
use Rattle.std.proofs.Common.{if◌then◌else◌}
use Rattle.std.specs.Prelude.{All, IfSome, option_map, slice_get}
use Rattle.std.specs.List.{find, list_all, list_any}
use Rattle.std.proofs.Math.Bool.{or-false}
use Rattle.std.proofs.lemmas.Bool.{and_from, and_parts}
use Rattle.std.proofs.lemmas.List.Elements.{All-cons, All-head, All-nil, All-tail}
use Rattle.std.proofs.lemmas.List.Folds.{list_any-append}
use Rattle.std.proofs.lemmas.Option.{same_Some}

-- ---- the first item that passes

-- it passes
pub find_passes : {X : Type 0} (p : X → Bool) (xs : List X) (x : X) → find p xs ≡ Some x → p x ≡ true
find_passes p [] x is = absurd cc
find_passes p (y ∷ ys) x is = by (p y) refl is (find_passes p ys x)
  where
    by : (b : Bool) → p y ≡ b → (if b then Some y else find p ys) ≡ Some x → (find p ys ≡ Some x → p x ≡ true) →
        p x ≡ true
    by true e is rest = ap p (sym (same_Some y x is)) ∙ e
    by false e is rest = rest is

-- it has what all have
pub all_find : {X : Type 0} (P : X → Type 0) (test : X → Bool) (xs : List X) (x : X) → All P xs →
    find test xs ≡ Some x → P x
all_find P test [] x all is = absurd cc
all_find P test (y ∷ ys) x all is = by (test y) is (All-head P y ys all)
    (λ later. all_find P test ys x (All-tail P y ys all) later)
  where
    by : (b : Bool) → (if b then Some y else find test ys) ≡ Some x → P y → (find test ys ≡ Some x → P x) → P x
    by true is' here rest = subst P (same_Some y x is') here
    by false is' here rest = rest is'

-- where none passes there is none
pub none_found : {X : Type 0} (p : X → Bool) (xs : List X) → list_any p xs ≡ false → find p xs ≡ None
none_found p [] none = refl
none_found p (x ∷ xs) none = by (p x) none (none_found p xs) where
  by : (b : Bool) → (b || list_any p xs) ≡ false → (list_any p xs ≡ false → find p xs ≡ None) →
      (if b then Some x else find p xs) ≡ None
  by true some rest = cc
  by false none' rest = rest none'

-- ---- what is said of all items, by a test and by a fact

-- a test that says a fact
pub all_pass : {X : Type 0} (p : X → Bool) (P : X → Type 0) → ((x : X) → p x ≡ true → P x) → (xs : List X) →
    list_all p xs ≡ true → All P xs
all_pass p P each [] all = All-nil P
all_pass p P each (x ∷ xs) all =
    let both = and_parts (p x) (list_all p xs) all in All-cons P x xs (each x both.0) (all_pass p P each xs both.1)

-- a fact that passes a test
pub each_passes : {X : Type 0} (p : X → Bool) (P : X → Type 0) → ((x : X) → P x → p x ≡ true) → (xs : List X) →
    All P xs → list_all p xs ≡ true
each_passes p P each [] all = refl
each_passes p P each (x ∷ xs) all =
    and_from (p x) (list_all p xs) (each x (All-head P x xs all)) (each_passes p P each xs (All-tail P x xs all))

-- one more item that is looked at
pub any_more : {X : Type 0} (test : X → Bool) (xs : List X) (x : X) →
    (list_any test xs || test x) ≡ list_any test (xs ++ x ∷ [])
any_more test xs x = ap (λ b. list_any test xs || b) (sym (or-false (test x))) ∙ sym (list_any-append test xs (x ∷ []))

-- ---- options that a call gives

-- the value of which a call made the one that is there
pub mapped : {X Y : Type 0} (f : X → Y) (o : Option X) (y : Y) → option_map f o ≡ Some y →
    (x : X) × (o ≡ Some x) × (f x ≡ y)
mapped f None y is = absurd cc
mapped f (Some x) y is = (x, refl, same_Some (f x) y is)

-- where a call made none there was none
pub no_value : {X Y : Type 0} (f : X → Y) (o : Option X) → option_map f o ≡ None → o ≡ None
no_value f None is = refl
no_value f (Some x) is = absurd cc

pub if_told : {A : Type 0} (told : Option A) (P Q R : A → Type 0) → IfSome told P → IfSome told Q →
    ((x : A) → P x → Q x → R x) → IfSome told R
if_told None P Q R p q both = tt
if_told (Some x) P Q R p q both = both x p q

pub if_told_one : {A : Type 0} (told : Option A) (P R : A → Type 0) → IfSome told P → ((x : A) → P x → R x) →
    IfSome told R
if_told_one None P R p one = tt
if_told_one (Some x) P R p one = one x p

pub all_told : {A : Type 0} (told : Option A) (P : A → Type 0) → ((x : A) → P x) → IfSome told P
all_told None P each = tt
all_told (Some x) P each = each x

-- ---- reads

-- what a function gives of an item is what its list has there, whatever stands past the end
pub read-at : {A B : Type 0} (f : A → B) (xs : List A) (i : ℕ) (d : A) → i < length xs →
    f (get_or xs i d) ≡ get_or (map f xs) i (f (get_or xs i d))
read-at f [] i d within = absurd (omega arith)
read-at f (y ∷ ys) zero d within = refl
read-at f (y ∷ ys) (suc i) d within = read-at f ys i d (omega arith)

-- a read within a list is of no value past its end
pub get_or-any : {X : Type 0} (xs : List X) (i : ℕ) (d e : X) → i < length xs → get_or xs i d ≡ get_or xs i e
get_or-any [] i d e within = absurd (omega arith)
get_or-any (x ∷ xs) zero d e within = refl
get_or-any (x ∷ xs) (suc i) d e within = get_or-any xs i d e (omega arith)

-- one item more of a list is the one at that place
pub take_at : {X : Type 0} (xs : List X) (i : ℕ) (x : X) → slice_get xs i ≡ Some x
    → take (i + 1) xs ≡ take i xs ++ x ∷ []
take_at {X} xs i x h = ap (λ n. take n xs) (add-one i) ∙ by xs i h
  where
    by : (ys : List X) (k : ℕ) → slice_get ys k ≡ Some x → take (suc k) ys ≡ take k ys ++ x ∷ []
    by [] k g = absurd cc
    by (y ∷ ys) zero g = let e : y ≡ x = cc in ap (λ z. z ∷ []) e
    by (y ∷ ys) (suc k) g = ap (λ zs. y ∷ zs) (by ys k g)
