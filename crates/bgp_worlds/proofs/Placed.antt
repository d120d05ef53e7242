-- What stands at the places of a plan, and the slots of a shape world by router and length.
use Rattle.std.proofs.Common.{◌≡◌, ℕ, zero, suc, ◌+◌, ◌*◌, ◌/◌, ◌<◌, ◌||◌, Bool, true, false, List, []}
use Rattle.std.proofs.Common.{◌∷◌, map, Some, None, refl, sym, ap, ◌∙◌, arith}
use Rattle.std.specs.Prelude.{if◌then◌else◌, slice_get}
use Rattle.std.specs.List.{range_with_len}
use Rattle.std.proofs.lemmas.Bool.{and_parts}
use Rattle.plan_places.specs.declared.places.Place.{Place}
use Rattle.plan_places.specs.Places.{has_place, is_at, item_at, place}
use Rattle.plan_places.specs.Tables.{all_hold}
use Rattle.slot_places.proofs.PlaceLaws.{at-is}

-- ---- numbers in a row

pub range-at : (a n k : ℕ) → k < n → slice_get (range_with_len a n) k ≡ Some (a + k)
range-at a zero k below = absurd (omega (arith, below))
range-at a (suc n) zero below = ap Some (omega arith)
range-at a (suc n) (suc k) below =
    range-at (a + 1) n k (omega (arith, below)) ∙ ap Some (omega arith)

-- ---- things at places

-- a thing that stands at a place and passes there
pub record IsMade {U : Type 0} (holds : Place → U → Bool) (ps : List Place) (us : List U) (router len : ℕ) : Type 0
  where
    pub item : U
    pub is : item_at ps us router len ≡ Some item
    pub passes : holds (place router len) item ≡ true

pub made : {U : Type 0} (holds : Place → U → Bool) (ps : List Place) (us : List U) (router len : ℕ) →
    all_hold holds ps us ≡ true → has_place ps router len ≡ true → IsMade holds ps us router len
unfolding item_at all_hold
made holds [] us router len all there = absurd cc
made holds (p ∷ ps) [] router len all there = absurd cc
made {U} holds (p ∷ ps) (u ∷ us) router len all there =
    by (is_at router len p) refl there
    (λ later. made holds ps us router len (and_parts (holds p u) (all_hold holds ps us) all).1 later)
  where
    by : (b : Bool) → is_at router len p ≡ b → (b || has_place ps router len) ≡ true →
        (has_place ps router len ≡ true → IsMade holds ps us router len) → IsMade holds (p ∷ ps) (u ∷ us) router len
    by true is there rest = record {
      item = u;
      is = ap (λ c. if c then Some u else item_at ps us router len) is;
      passes = ap (λ q. holds q u) (sym (at-is p router len is))
          ∙ (and_parts (holds p u) (all_hold holds ps us) all).0;
    }
    by false is there rest =
        let later = rest there in
        record {
          item = later.item;
          is = ap (λ c. if c then Some u else item_at ps us router len) is ∙ later.is;
          passes = later.passes;
        }

pub not_made : {U : Type 0} (ps : List Place) (us : List U) (router len : ℕ) → has_place ps router len ≡ false →
    item_at ps us router len ≡ None
unfolding item_at
not_made [] us router len none = refl
not_made (p ∷ ps) [] router len none = refl
not_made {U} (p ∷ ps) (u ∷ us) router len none = by (is_at router len p) none (not_made ps us router len)
  where
    by : (b : Bool) → (b || has_place ps router len) ≡ false →
        (has_place ps router len ≡ false → item_at ps us router len ≡ None) →
        (if b then Some u else item_at ps us router len) ≡ None
    by true some rest = absurd cc
    by false none' rest = rest none'

pub item_again : {U : Type 0} (open_at : Place → U) (ps : List Place) (router len : ℕ) →
    has_place ps router len ≡ true → item_at ps (map open_at ps) router len ≡ Some (open_at (place router len))
unfolding item_at
item_again open_at [] router len there = absurd cc
item_again {U} open_at (p ∷ ps) router len there =
    by (is_at router len p) refl there (λ later. item_again open_at ps router len later)
  where
    by : (b : Bool) → is_at router len p ≡ b → (b || has_place ps router len) ≡ true →
        (has_place ps router len ≡ true →
        item_at ps (map open_at ps) router len ≡ Some (open_at (place router len))) →
        (if b then Some (open_at p) else item_at ps (map open_at ps) router len) ≡ Some (open_at (place router len))
    by true is there' rest = ap (λ q. Some (open_at q)) (at-is p router len is)
    by false is there' rest = rest there'

-- ---- places by number

pub router_small : (k n : ℕ) → k < 33 * n → k / 33 < n
router_small k n below = omega (arith, below)

pub place_small : (router len n : ℕ) → router < n → len < 33 → 33 * router + len < 33 * n
place_small router len n within below = omega (arith, within, below)
