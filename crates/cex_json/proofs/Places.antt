-- Items of a list that are found.
use Rattle.std.proofs.Common.{◌≡◌, ℕ, zero, suc, ◌+◌, ◌<◌, Bool, true, false, cond, List, [], ◌∷◌, ◌++◌}
use Rattle.std.proofs.Common.{length, nat_lt, Some, None, refl, ap, sym, subst, ◌∙◌, arith, IsUtf8, get_or}
use Rattle.std.proofs.lemmas.Bool.{lt-ltb}
use Rattle.std.proofs.lemmas.Option.{get_or_from_slice_get, slice_get_within}
use Rattle.std.proofs.lemmas.Str.{utf8_lossy-IsUtf8}
use Rattle.std.specs.Cmp.Lexicographic.{bytes_decides}
use Rattle.std.specs.List.{position, position_or_len}
use Rattle.std.specs.Prelude.{All, AllPairs, slice_get}
use Rattle.std.specs.Str.Lossy.{utf8_lossy}
use Rattle.mw_text.proofs.Lists.{all_found}
use Rattle.mw_text.specs.Text.{same_text}
use Rattle.cex_json.specs.Writable.{AreTexts, EachSplit}

-- ---- items at places

-- the item behind a front
pub item_behind : {A : Type 0} (front rest : List A) (x : A) → slice_get (front ++ x ∷ rest) (length front) ≡ Some x
item_behind [] rest x = refl
item_behind (y ∷ front) rest x = item_behind front rest x

-- what holds of all members
pub all_split : {A : Type 0} (P : A → Type 0) (xs : List A) → All P xs → EachSplit (λ _ x. P x) xs
all_split P xs all before rest x is =
    all_found P xs (length before) x all (ap (λ ys. slice_get ys (length before)) is ∙ item_behind before rest x)

-- what holds of each item and each later one
pub pair_at : {A : Type 0} (R : A → A → Type 0) (xs : List A) (i j : ℕ) (x y : A) → AllPairs R xs → i < j →
    slice_get xs i ≡ Some x → slice_get xs j ≡ Some y → R x y
pair_at R xs i j x y pairs less one other =
    let within : j < length xs = slice_get_within xs j y other in
    subst (λ b. R x b) (get_or_from_slice_get xs j y x other)
    (subst (λ a. R a (get_or xs j x)) (get_or_from_slice_get xs i x x one) (pairs i j x less within))

-- ---- the only item that passes

first_at : {A : Type 0} (p : A → Bool) (xs : List A) (at : ℕ) (x : A) → slice_get xs at ≡ Some x → p x ≡ true →
    ((k : ℕ) (y : A) → k < at → slice_get xs k ≡ Some y → p y ≡ false) → position_or_len p xs ≡ at
first_at p [] at x there passes none = absurd cc
first_at p (y ∷ rest) zero x there passes none =
    let same : x ≡ y = cc in
    let here : p y ≡ true = ap p (sym same) ∙ passes in rw here refl
first_at p (y ∷ rest) (suc k) x there passes none =
    let other : p y ≡ false = none 0 y (omega arith) refl in
    let more : 1 + k ≡ suc k = omega arith in
    rw other (ap (λ n. 1 + n) (first_at p rest k x there passes
    (λ j z less found. none (suc j) z (omega arith) found)) ∙ more)

-- where one item alone passes a test, its place is found
pub only_place : {A : Type 0} (p : A → Bool) (xs : List A) (at : ℕ) (x : A) → slice_get xs at ≡ Some x → p x ≡ true →
    ((k : ℕ) (y : A) → slice_get xs k ≡ Some y → p y ≡ true → k ≡ at) → position p xs ≡ Some at
only_place {A = A} p xs at x there passes only =
    let first : position_or_len p xs ≡ at = first_at p xs at x there passes
    (λ k y less found. by_test k y less found (p y) refl)
    in
    let within : at < length xs = slice_get_within xs at x there in
    ap (λ i. cond (nat_lt i (length xs)) (Some i) None) first
    ∙ ap (λ b. cond b (Some at) None) (lt-ltb at (length xs) within)
  where
    by_test : (k : ℕ) (y : A) → k < at → slice_get xs k ≡ Some y → (b : Bool) → p y ≡ b → p y ≡ false
    by_test k y less found true is = let same : k ≡ at = only k y found is in absurd (omega arith)
    by_test k y less found false is = is

-- ---- texts

pub same_itself : (word : List ℕ) → same_text word word ≡ true
same_itself word = (bytes_decides word word).1 refl

-- a text as it is written
pub as_written : {A : Type 0} (text : A → List ℕ) (xs : List A) (at : ℕ) (x : A) → AreTexts text xs →
    slice_get xs at ≡ Some x → utf8_lossy (text x) ≡ text x
as_written text xs at x texts there =
    utf8_lossy-IsUtf8 (text x) (all_found (λ y. IsUtf8 (text y)) xs at x texts.utf8 there)

-- the place of an item is found by its text as it is written
pub text_found : {A : Type 0} (text : A → List ℕ) (xs : List A) (at : ℕ) (x : A) → AreTexts text xs →
    slice_get xs at ≡ Some x → position (λ y. same_text (text y) (utf8_lossy (text x))) xs ≡ Some at
text_found {A = A} text xs at x texts there =
    rw (as_written text xs at x texts there)
    (only_place (λ y. same_text (text y) (text x)) xs at x there (same_itself (text x))
    (λ k y found same. texts.once k at y x found there ((bytes_decides (text y) (text x)).0 same)))
