-- References by their places in the list.
use Rattle.std.specs.Prelude.{ℕ, zero, suc, ◌≡◌, ◌≢◌, ◌<◌, ◌≤◌, ◌==◌, not, List, [], ◌∷◌, length, refl}
use Rattle.std.specs.Prelude.{Result, Ok, Err}
use Rattle.std.specs.Result.{MatchResult}
use Rattle.std.specs.List.{remove}
use Rattle.std.specs.List.Sorted.{IsBinarySearchResult}
use Rattle.std.specs.Ordering.{nat_cmp}
use Rattle.std.proofs.Common.{sym, ap, subst, inl, inr, arith, get_or}
use Rattle.std.proofs.lemmas.Bool.{cases_lt, ne_eqb}
use Rattle.std.proofs.lemmas.List.Sorted.{searched}
use borrow.Author.Tests.{eq-eqb}
use Rattle.clause_arena.specs.Links.{word}
use Rattle.mw_text.specs.Members.{In}
use Rattle.clause_arena.specs.Store.{Rises}
use Rattle.clause_arena.specs.Deleted.{others}
use Rattle.clause_arena.proofs.Unlinks.{filter_all}

-- what stands at a place is a member
pub in_at : (xs : List ℕ) (k : ℕ) → k < length xs → In (word xs k) xs
in_at [] k h = absurd (omega arith)
in_at (x ∷ xs) zero h = inl refl
in_at (x ∷ xs) (suc k) h = inr (in_at xs k (omega arith))

pub record IsAt (xs : List ℕ) (p : ℕ) : Type 0 where
  pub at : ℕ
  pub within : at < length xs
  pub value : word xs at ≡ p

-- a member has a place
pub at_of : (xs : List ℕ) (p : ℕ) → In p xs → IsAt xs p
at_of [] p i = absurd i
at_of (x ∷ xs) p (inl e) = record { at = 0; within = omega arith; value = sym e }
at_of (x ∷ xs) p (inr i) =
    let k = at_of xs p i in
    record { at = suc k.at; within = omega (arith, k.within); value = k.value }

-- references rise with their places
pub rises_at : (xs : List ℕ) (j k : ℕ) → Rises xs → j < k → k < length xs → word xs j < word xs k
rises_at [] j k up h l = absurd (omega arith)
rises_at (x ∷ xs) zero zero up h l = absurd (omega arith)
rises_at (x ∷ xs) zero (suc k) up h l = up.0 (word xs k) (in_at xs k (omega arith))
rises_at (x ∷ xs) (suc j) zero up h l = absurd (omega arith)
rises_at (x ∷ xs) (suc j) (suc k) up h l = rises_at xs j k up.1 (omega arith) (omega arith)

pub rises_to : (xs : List ℕ) (j k : ℕ) → Rises xs → j ≤ k → k < length xs → word xs j ≤ word xs k
rises_to xs j k up h l =
    elim (cases_lt j k) [
      | inl lt ↦ omega (arith, rises_at xs j k up lt l)
      | inr ge ↦ (let e : j ≡ k = omega arith in let w : word xs j ≡ word xs k = ap (word xs) e in omega arith)
    ]

-- the list without one place is the list without the reference that stands there
pub removed : (xs : List ℕ) (x i : ℕ) → Rises xs → i < length xs → word xs i ≡ x → remove xs i ≡ others x xs
removed [] x i up h e = absurd (omega arith)
removed (y ∷ ys) x zero up h e =
    let rest : others x ys ≡ ys = filter_all (λ s. not (s == x)) ys
    (λ q i. (let l : y < q = up.0 q i in rw (ne_eqb q x (λ z. omega arith)) refl)) in
    rw (eq-eqb y x e, rest) refl
removed (y ∷ ys) x (suc i) up h e =
    let l : y < word ys i = up.0 (word ys i) (in_at ys i (omega arith)) in
    let rest : remove ys i ≡ others x ys = removed ys x i up.1 (omega arith) e in
    rw (ne_eqb y x (λ z. omega arith)) (ap (λ (zs : List ℕ). y ∷ zs) rest)

-- what a search of rising references says
found : (xs : List ℕ) (x : ℕ) (r : Result ℕ ℕ) → Rises xs → IsBinarySearchResult (λ y. nat_cmp y x) xs r
    → MatchResult r (λ i. (i < length xs) × (get_or xs i 0 ≡ x)) (λ i. (i ≤ length xs)
    × ((k : ℕ) → k < i → get_or xs k 0 < x) × ((k : ℕ) → i ≤ k → k < length xs → x < get_or xs k 0))
found xs x r up s = searched xs x r s (λ j k h l. rises_to xs j k up h l)

pub found_ok : (xs ds : List ℕ) (x i : ℕ) (r : Result ℕ ℕ) → ds ≡ xs → Rises xs
    → IsBinarySearchResult (λ y. nat_cmp y x) ds r → r ≡ Ok i → (i < length xs) × (word xs i ≡ x)
found_ok xs ds x i r e up s is =
    subst (λ (q : Result ℕ ℕ). MatchResult q (λ j. (j < length xs) × (get_or xs j 0 ≡ x)) (λ j. (j ≤ length xs)
    × ((k : ℕ) → k < j → get_or xs k 0 < x) × ((k : ℕ) → j ≤ k → k < length xs → x < get_or xs k 0))) is
    (found xs x r up (subst (λ (zs : List ℕ). IsBinarySearchResult (λ y. nat_cmp y x) zs r) e s))

found_err : (xs ds : List ℕ) (x i : ℕ) (r : Result ℕ ℕ) → ds ≡ xs → Rises xs
    → IsBinarySearchResult (λ y. nat_cmp y x) ds r → r ≡ Err i → (i ≤ length xs)
    × ((k : ℕ) → k < i → get_or xs k 0 < x) × ((k : ℕ) → i ≤ k → k < length xs → x < get_or xs k 0)
found_err xs ds x i r e up s is =
    subst (λ (q : Result ℕ ℕ). MatchResult q (λ j. (j < length xs) × (get_or xs j 0 ≡ x)) (λ j. (j ≤ length xs)
    × ((k : ℕ) → k < j → get_or xs k 0 < x) × ((k : ℕ) → j ≤ k → k < length xs → x < get_or xs k 0))) is
    (found xs x r up (subst (λ (zs : List ℕ). IsBinarySearchResult (λ y. nat_cmp y x) zs r) e s))

not_found : (xs : List ℕ) (x i : ℕ) → ((k : ℕ) → k < i → word xs k < x)
    → ((k : ℕ) → i ≤ k → k < length xs → x < word xs k) → (q : ℕ) → In q xs → q ≢ x
not_found xs x i low high q j e =
    let k = at_of xs q j in
    let v : word xs k.at ≡ q = k.value in
    elim (cases_lt k.at i) [
      | inl h ↦ (let a : word xs k.at < x = low k.at h in omega arith)
      | inr h ↦ (let a : x < word xs k.at = high k.at h k.within in omega arith)
    ]

-- a reference that is not there leaves nothing out
pub others_all : (xs : List ℕ) (x : ℕ) → ((q : ℕ) → In q xs → q ≢ x) → others x xs ≡ xs
others_all xs x out = filter_all (λ s. not (s == x)) xs (λ q i. rw (ne_eqb q x (out q i)) refl)

pub forgets_none : (xs ds : List ℕ) (x i : ℕ) (r : Result ℕ ℕ) → ds ≡ xs → Rises xs
    → IsBinarySearchResult (λ y. nat_cmp y x) ds r → r ≡ Err i → (q : ℕ) → In q xs → q ≢ x
forgets_none xs ds x i r e up s is = let k = found_err xs ds x i r e up s is in not_found xs x i k.1 k.2
