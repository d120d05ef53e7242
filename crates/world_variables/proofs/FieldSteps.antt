-- Values by their places, and addresses by theirs.
use Rattle.std.proofs.Common.{◌≡◌, ℕ, zero, suc, ◌+◌, ◌^◌, ◌<◌, ◌≤◌, Bool, true, false, List, [], ◌∷◌, length, get_or}
use Rattle.std.proofs.Common.{refl, sym, ap, arith, ◌∙◌, if◌then◌else◌, leb-true, le-leb, map}
use Rattle.std.specs.Prelude.{◌==◌, nat_le}
use Rattle.std.proofs.lemmas.Bool.{eqb-true}
use Rattle.std.proofs.lemmas.Bool.Decides.{nat_tests}
use Rattle.std.proofs.lemmas.List.{length-map}
use Rattle.std.proofs.Math.Pow.{pow_mono}
use Rattle.slot_places.specs.Values.{address_numbers}

-- the value at a place that is not before one, and else 0
unfoldable pub later : List ℕ → ℕ → ℕ → ℕ
later values i place = if nat_le i place then get_or values place 0 else 0

past : (values : List ℕ) (k : ℕ) → length values ≤ k → get_or values k 0 ≡ 0
past [] k h = refl
past (x ∷ xs) zero h = absurd (omega (arith, h))
past (x ∷ xs) (suc k) h = past xs k (omega (arith, h))

-- past the last there is nothing
pub later_none : (values : List ℕ) (place : ℕ) → later values (length values) place ≡ 0
unfolding later
later_none values place = by (nat_le (length values) place) refl where
  by : (b : Bool) → nat_le (length values) place ≡ b → (if b then get_or values place 0 else 0) ≡ 0
  by true e = past values place (leb-true (length values) place e)
  by false e = refl

pub later_first : (values : List ℕ) (place : ℕ) → later values 0 place ≡ get_or values place 0
unfolding later
later_first values place = ap (λ b. if b then get_or values place 0 else 0) (le-leb 0 place (omega arith))

-- one more at the front
pub later_step : (values : List ℕ) (i place : ℕ) →
    (later values i place ≡ later values i place)
    × ((if place == i then get_or values i 0 else later values (i + 1) place) ≡ later values i place)
unfolding later
later_step values i place = (refl, by (place == i) refl) where
  same : (a b : ℕ) → (a == b) ≡ true → nat_le b a ≡ true
  same a b e = grind (arith, nat_tests)

  other : (a b : ℕ) → (a == b) ≡ false → nat_le (b + 1) a ≡ nat_le b a
  other a b e = grind (arith, nat_tests)

  by : (b : Bool) → (place == i) ≡ b →
      (if b then get_or values i 0 else (if nat_le (i + 1) place then get_or values place 0 else 0))
      ≡ (if nat_le i place then get_or values place 0 else 0)
  by true e =
      ap (λ k. get_or values k 0) (sym (eqb-true place i e))
      ∙ sym (ap (λ b. if b then get_or values place 0 else 0) (same place i e))
  by false e = ap (λ b. if b then get_or values place 0 else 0) (other place i e)

-- ---- addresses: that of none has place 0

-- the number of an address has 33 bits
pub address_fits : (a whole : ℕ) → a < 2 ^ 32 → 33 ≤ whole → 2 ^ 32 + a < 2 ^ whole
address_fits a whole small long = let top = pow_mono long in omega (arith, small, top)

-- past the last address there is nothing
pub address_last : (addresses : List ℕ) (place : ℕ) →
    later (address_numbers addresses) (length addresses + 1) place ≡ 0
address_last addresses place =
    let many = length-map addresses (λ a. 2 ^ 32 + a) in
    let last : length addresses + 1 ≡ length (address_numbers addresses) = omega (arith, many) in
    ap (λ k. later (address_numbers addresses) k place) last ∙ later_none (address_numbers addresses) place

pub address_first : (addresses : List ℕ) (place : ℕ) →
    later (address_numbers addresses) 1 place ≡ get_or (address_numbers addresses) place 0
unfolding later
address_first addresses zero = refl
address_first addresses (suc k) =
    ap (λ b. if b then get_or (address_numbers addresses) (suc k) 0 else 0) (le-leb 1 (suc k) (omega arith))

-- one more address at the front
pub address_next : (addresses : List ℕ) (i place : ℕ) → i < length addresses →
    (later (address_numbers addresses) (i + 1) place ≡ later (address_numbers addresses) (i + 1) place)
    × ((if place == i + 1 then 2 ^ 32 + get_or addresses i 0 else later (address_numbers addresses) (i + 1 + 1) place)
    ≡ later (address_numbers addresses) (i + 1) place)
address_next addresses i place within = (
  refl,
  ap (λ n. if place == i + 1 then n else later (address_numbers addresses) (i + 1 + 1) place) (sym here)
      ∙ (later_step (address_numbers addresses) (i + 1) place).1,
)
  where
    at : (xs : List ℕ) (k : ℕ) → k < length xs → get_or (map (λ a. 2 ^ 32 + a) xs) k 0 ≡ 2 ^ 32 + get_or xs k 0
    at [] k below = absurd (omega (arith, below))
    at (x ∷ xs) zero below = refl
    at (x ∷ xs) (suc k) below = at xs k (omega (arith, below))

    next : i + 1 ≡ suc i
    next = omega arith

    here : get_or (address_numbers addresses) (i + 1) 0 ≡ 2 ^ 32 + get_or addresses i 0
    here = ap (λ k. get_or (address_numbers addresses) k 0) next ∙ at addresses i within
