-- A number for which a field has room is told by as many bits as the field has, and read back from them.
use Rattle.std.proofs.Common.{◌≡◌, ℕ, zero, suc, ◌+◌, ◌-◌, ◌^◌, ◌<◌, Bool, true, false, List, [], ◌∷◌, length}
use Rattle.std.proofs.Common.{inl, inr, refl, sym, ap, arith, ◌∙◌}
use Rattle.std.specs.Prelude.{◌==◌, None, Some, map, slice_get, slice_index, if◌then◌else◌}
use Rattle.std.proofs.lemmas.Bool.{eqb-true, false≢true, eq-eqb}
use Rattle.std.proofs.lemmas.List.{length-map}
use Rattle.std.proofs.lemmas.Option.{same_Some}
use Rattle.mw_text.specs.Members.{In}
use Rattle.net_parts.proofs.LeastWalks.{contains-in}
use Rattle.slot_places.specs.declared.fields.Field.{Field}
use Rattle.slot_places.specs.declared.fields.Field.TheVariants.{Bits, Among, Addresses}
use Rattle.slot_places.specs.Values.{FitsField, address_numbers, field_width, place_of, read_as, told_as}
use Rattle.slot_places.proofs.Widths.{in_width}

place-below : (values : List ℕ) (n : ℕ) → In n values → place_of values n < length values
place-below [] n there = absurd there
place-below (x ∷ xs) n there = by (x == n) refl there (place-below xs n) where
  by : (b : Bool) → (x == n) ≡ b → In n (x ∷ xs) → (In n xs → place_of xs n < length xs) →
      (if b then 0 else suc (place_of xs n)) < suc (length xs)
  by true same there' rest = omega arith
  by false same (inl first) rest = absurd (false≢true (sym same ∙ eq-eqb x n (sym first)))
  by false same (inr later) rest = let below = rest later in omega (arith, below)

place-reads : (values : List ℕ) (n : ℕ) → In n values → slice_index values (place_of values n) ≡ n
place-reads [] n there = absurd there
place-reads (x ∷ xs) n there = by (x == n) refl there (place-reads xs n) where
  by : (b : Bool) → (x == n) ≡ b → In n (x ∷ xs) → (In n xs → slice_index xs (place_of xs n) ≡ n) →
      slice_index (x ∷ xs) (if b then 0 else suc (place_of xs n)) ≡ n
  by true same there' rest = eqb-true x n same
  by false same (inl first) rest = absurd (false≢true (sym same ∙ eq-eqb x n (sym first)))
  by false same (inr later) rest = rest later

pub small : (field : Field) (n : ℕ) → FitsField field n → told_as field n < 2 ^ field_width field
small (Bits width) n fits = fits
small (Among values) n fits =
    let below = place-below values n (contains-in n values fits.0) in
    let few = fits.1 in
    in_width (place_of values n) (length values - 1) 0 32 (omega (arith, below)) (omega (arith, below, few))
small (Addresses addresses) n fits =
    let numbers = address_numbers addresses in
    let below = place-below numbers n (contains-in n numbers fits.0) in
    let few = fits.1 in
    let many = length-map addresses (λ a. 2 ^ 32 + a) in
    in_width (place_of numbers n) (length addresses) 0 32 (omega (arith, below, many)) (omega (arith, below, many, few))

pub again : (field : Field) (n : ℕ) → FitsField field n → read_as field (told_as field n) ≡ n
again (Bits width) n fits = refl
again (Among values) n fits = place-reads values n (contains-in n values fits.0)
again (Addresses addresses) n fits =
    place-reads (address_numbers addresses) n (contains-in n (address_numbers addresses) fits.0)

-- ---- the numbers of addresses

above_none : (addresses : List ℕ) (k : ℕ) → slice_get addresses k ≡ None →
    slice_index (map (λ a. 2 ^ 32 + a) addresses) k ≡ 0
above_none [] k none = refl
above_none (a ∷ addresses) zero none = absurd cc
above_none (a ∷ addresses) (suc k) none = above_none addresses k none

above_some : (addresses : List ℕ) (k a : ℕ) → slice_get addresses k ≡ Some a →
    slice_index (map (λ b. 2 ^ 32 + b) addresses) k ≡ 2 ^ 32 + a
above_some [] k a some = absurd cc
above_some (b ∷ addresses) zero a some = ap (λ n. 2 ^ 32 + n) (same_Some b a some)
above_some (b ∷ addresses) (suc k) a some = above_some addresses k a some

-- what stands at a place past that of none
pub address_there : (addresses : List ℕ) (place : ℕ) → 0 < place →
    (slice_get addresses (place - 1) ≡ None → slice_index (address_numbers addresses) place ≡ 0)
    × ((a : ℕ) → slice_get addresses (place - 1) ≡ Some a → slice_index (address_numbers addresses) place ≡ 2 ^ 32 + a)
address_there addresses zero some = absurd (omega (arith, some))
address_there addresses (suc k) some =
    let same : suc k - 1 ≡ k = omega arith in (
      λ none. above_none addresses k (ap (slice_get addresses) (sym same) ∙ none),
      λ a is. above_some addresses k a (ap (slice_get addresses) (sym same) ∙ is),
    )
