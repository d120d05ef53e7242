-- What is known of options that a call gives, and of the first item that passes.
use Rattle.std.proofs.Common.{◌≡◌, ℕ, zero, suc, ◌+◌, not, ◌&&◌, ◌||◌, Bool, true, false, List, [], ◌∷◌}
use Rattle.std.proofs.Common.{Option, Some, None, refl, ap, if◌then◌else◌, arith}
use Rattle.std.specs.Prelude.{IfSome, option_and_then, option_map, slice_get}
use Rattle.std.specs.List.{enumerate_from, find}
use Rattle.std.proofs.lemmas.Option.{same_Some}

pub if_true : {X : Type 0} (P : X → Type 0) (b : Bool) (o : Option X) → (b ≡ true → IfSome o P) →
    IfSome (if b then o else None) P
if_true P true o holds = holds refl
if_true P false o holds = tt

-- the same with the value that the first call gave
pub if_found : {X Y : Type 0} (P : Y → Type 0) (f : X → Option Y) (o : Option X) →
    ((x : X) → o ≡ Some x → IfSome (f x) P) → IfSome (option_and_then f o) P
if_found P f None each = tt
if_found P f (Some x) each = each x refl

pub chosen : {X : Type 0} (b : Bool) (o : Option X) (x : X) → (if b then o else None) ≡ Some x →
    (b ≡ true) × (o ≡ Some x)
chosen true o x is = (refl, is)
chosen false o x is = absurd cc

-- of two of which not both hold, and of a third that holds where both do
pub not_both : (a b : Bool) → not (a && b) ≡ true → a ≡ true → b ≡ false
not_both true true none held = absurd cc
not_both true false none held = refl
not_both false b none held = absurd cc

pub not_or : (a b c : Bool) → a ≡ true → b ≡ true → (not (a && b) || c) ≡ true → c ≡ true
not_or true true c one other either = either
not_or true false c one other either = absurd cc
not_or false b c one other either = absurd cc

-- ---- the first item that passes

-- among numbered items, it stands at its place
pub numbered_there : {X : Type 0} (p : ℕ × X → Bool) (n : ℕ) (xs : List X) (at : ℕ) (x : X) →
    find p (enumerate_from n xs) ≡ Some (at, x) → (k : ℕ) × (at ≡ n + k) × (slice_get xs k ≡ Some x)
numbered_there p n [] at x is = absurd cc
numbered_there {X = X} p n (y ∷ ys) at x is = by (p (n, y)) is (numbered_there p (n + 1) ys at x)
  where
    by : (b : Bool) → (if b then Some (n, y) else find p (enumerate_from (n + 1) ys)) ≡ Some (at, x) →
        (find p (enumerate_from (n + 1) ys) ≡ Some (at, x) → (k : ℕ) × (at ≡ n + 1 + k) × (slice_get ys k ≡ Some x)) →
        (k : ℕ) × (at ≡ n + k) × (slice_get (y ∷ ys) k ≡ Some x)
    by true is rest =
        let same = same_Some (n, y) (at, x) is in
        let place : n ≡ at = ap (λ (e : ℕ × X). e.0) same in
        let item : y ≡ x = ap (λ (e : ℕ × X). e.1) same in
        (zero, omega (arith, place), ap Some item)
    by false is rest =
        let found = rest is in
        let place = found.1 in
        (suc found.0, omega (arith, place), found.2)

-- without its number it is the first that passes of the items alone
pub unnumbered_find : {X : Type 0} (p : X → Bool) (n : ℕ) (xs : List X) →
    option_map (λ (e : ℕ × X). e.1) (find (λ (e : ℕ × X). p e.1) (enumerate_from n xs)) ≡ find p xs
unnumbered_find p n [] = refl
unnumbered_find {X = X} p n (x ∷ xs) = by (p x) (unnumbered_find p (n + 1) xs)
  where
    by : (b : Bool) → option_map (λ (e : ℕ × X). e.1) (find (λ (e : ℕ × X). p e.1) (enumerate_from (n + 1) xs))
        ≡ find p xs →
        option_map (λ (e : ℕ × X). e.1)
        (if b then Some (n, x) else find (λ (e : ℕ × X). p e.1) (enumerate_from (n + 1) xs))
        ≡ (if b then Some x else find p xs)
    by true rest = refl
    by false rest = rest
