-- Tables that follow from what is open at places are a stable routing where each passes its test, and each stable routing
-- that is empty off the places is made so.
use Rattle.std.proofs.Common.{◌≡◌, ℕ, ◌<◌, Bool, true, false, List, [], ◌∷◌}
use Rattle.std.proofs.Common.{length, map}
use Rattle.std.proofs.Common.{Some, None, refl, sym, ap, ap₂, subst, ◌∙◌, slice_get}
use Rattle.std.specs.Prelude.{◌&&◌, ◌||◌, All, if◌then◌else◌}
use Rattle.std.specs.Option.{option_map_or}
use Rattle.std.proofs.lemmas.Bool.{and_parts}
use Rattle.std.proofs.lemmas.List.Elements.{All-head, All-tail}
use Rattle.std.proofs.lemmas.Option.{same_Some, slice_get_within}
use Rattle.mw_text.specs.declared.address.Addr.{Addr}
use Rattle.mw_text.specs.Address.{prefix_at}
use Rattle.ios_ast.specs.declared.file.File.{File}
use Rattle.route_record.specs.declared.Environment.{Environment}
use Rattle.route_record.specs.declared.Failures.{Failures}
use Rattle.route_record.specs.declared.Slot.{Slot}
use Rattle.route_record.specs.declared.Tables.{Tables}
use Rattle.route_record.specs.declared.TheConstants.{LENGTHS}
use Rattle.route_record.specs.Fits.{FitsSlot}
use Rattle.route_record.specs.Places.{slot_at}
use Rattle.net_parts.specs.Stable.{IsStableSlot, Stable}
use Rattle.plan_places.specs.declared.places.Place.{Place}
use Rattle.plan_places.specs.Places.{has_place, is_at, item_at, place}
use Rattle.plan_places.specs.Tables.{all_hold, empty_slot, slot_among, tables_over, tabulated}
use Rattle.plan_places.proofs.Tabulated.{tabulated-at, tabulated-length, tabulated-same}
use Rattle.slot_places.proofs.PlaceLaws.{at-is}

-- ---- what stands at a place, and off the places

-- something is open there that passes the test
record IsMade {U : Type 0} (holds : Place → U → Bool) (ps : List Place) (us : List U) (router len : ℕ) : Type 0 where
  open_part : U
  is : item_at ps us router len ≡ Some open_part
  passes : holds (place router len) open_part ≡ true

made : {U : Type 0} (holds : Place → U → Bool) (ps : List Place) (us : List U) (router len : ℕ) →
    all_hold holds ps us ≡ true → has_place ps router len ≡ true → IsMade holds ps us router len
unfolding item_at all_hold
made holds [] us router len hold there = absurd cc
made holds (p ∷ ps) [] router len hold there = absurd cc
made {U} holds (p ∷ ps) (u ∷ us) router len hold there =
    let both = and_parts (holds p u) (all_hold holds ps us) hold in
    by (is_at router len p) refl both.0 there (made holds ps us router len both.1)
  where
    by : (b : Bool) → is_at router len p ≡ b → holds p u ≡ true → (b || has_place ps router len) ≡ true →
        (has_place ps router len ≡ true → IsMade holds ps us router len) →
        IsMade holds (p ∷ ps) (u ∷ us) router len
    by true is here there' rest = record {
      open_part = u;
      is = ap (λ b. if b then Some u else item_at ps us router len) is;
      passes = subst (λ q. holds q u ≡ true) (at-is p router len is) here;
    }
    by false is here there' rest = let later = rest there' in record {
      open_part = later.open_part;
      is = ap (λ b. if b then Some u else item_at ps us router len) is ∙ later.is;
      passes = later.passes;
    }

not_made : {U : Type 0} (ps : List Place) (us : List U) (router len : ℕ) → has_place ps router len ≡ false →
    item_at ps us router len ≡ None
unfolding item_at
not_made [] us router len none = refl
not_made (p ∷ ps) [] router len none = refl
not_made {U} (p ∷ ps) (u ∷ us) router len none = by (is_at router len p) none (not_made ps us router len) where
  by : (b : Bool) → (b || has_place ps router len) ≡ false →
      (has_place ps router len ≡ false → item_at ps us router len ≡ None) →
      (if b then Some u else item_at ps us router len) ≡ None
  by true some rest = absurd cc
  by false none' rest = rest none'

-- off the places nothing stands
pub empty_off : {U : Type 0} (slot_of : Place → U → Slot) (ps : List Place) (us : List U) (router len : ℕ) →
    has_place ps router len ≡ false → slot_among slot_of ps us router len ≡ empty_slot
empty_off slot_of ps us router len none =
    ap (λ o. option_map_or (slot_of (place router len)) o empty_slot) (not_made ps us router len none)

-- ---- sound: where each thing that is open passes its test, and empty slots off the places are stable

module _ {U : Type 0} (slot_of : Place → U → Slot) (files : List File) (d : Addr) (failures : Failures)
    (environment : Environment) (places : List Place) (us : List U) where
  abbrev tables : Tables
  tables = tables_over slot_of places us (length files)

  -- a thing that passes makes a stable slot
  abbrev pub AreStableWhereHeld : (Place → U → Bool) → Type 0
  AreStableWhereHeld holds = (router len : ℕ) (file : File) (u : U) → slice_get files router ≡ Some file →
      len < LENGTHS → slot_at tables router len ≡ Some (slot_of (place router len) u) →
      holds (place router len) u ≡ true →
      IsStableSlot files failures environment tables router file (prefix_at d len) (slot_of (place router len) u)

  -- and where no place is the empty slot is stable
  abbrev pub AreStableWhereEmpty : Type 0
  AreStableWhereEmpty = (router len : ℕ) (file : File) → slice_get files router ≡ Some file → len < LENGTHS →
      has_place places router len ≡ false → slot_at tables router len ≡ Some empty_slot →
      IsStableSlot files failures environment tables router file (prefix_at d len) empty_slot

  pub all_stable : (holds : Place → U → Bool) → AreStableWhereHeld holds → AreStableWhereEmpty →
      All FitsSlot tables.slots → all_hold holds places us ≡ true → Stable files d failures environment tables
  all_stable holds where_held where_empty fits hold = record {
    size = tabulated-length (slot_among slot_of places us) (length files);
    fits = fits;
    equations = each;
  } where
    each : (router len : ℕ) (file : File) (slot : Slot) → slice_get files router ≡ Some file → len < LENGTHS →
        slot_at tables router len ≡ Some slot →
        IsStableSlot files failures environment tables router file (prefix_at d len) slot
    each router len file slot at short here = by (has_place places router len) refl where
      is : slot ≡ slot_among slot_of places us router len
      is = same_Some slot (slot_among slot_of places us router len) (sym here ∙ tabulated-at
          (slot_among slot_of places us) (length files) router len (slice_get_within files router file at) short)

      by : (b : Bool) → has_place places router len ≡ b →
          IsStableSlot files failures environment tables router file (prefix_at d len) slot
      by true some =
          let m = made holds places us router len hold some in
          let same : slot ≡ slot_of (place router len) m.open_part =
          is ∙ ap (λ o. option_map_or (slot_of (place router len)) o empty_slot) m.is in
          subst (IsStableSlot files failures environment tables router file (prefix_at d len)) (sym same)
          (where_held router len file m.open_part at short (here ∙ ap Some same) m.passes)
      by false none =
          let same : slot ≡ empty_slot = is ∙ empty_off slot_of places us router len none in
          subst (IsStableSlot files failures environment tables router file (prefix_at d len)) (sym same)
          (where_empty router len file at short none (here ∙ ap Some same))

-- ---- complete: tables that are empty off the places follow from what is open of their slots

pub item_again : {U : Type 0} (open_at : Place → U) (ps : List Place) (router len : ℕ) →
    has_place ps router len ≡ true → item_at ps (map open_at ps) router len ≡ Some (open_at (place router len))
unfolding item_at
item_again open_at [] router len there = absurd cc
item_again {U} open_at (p ∷ ps) router len there =
    by (is_at router len p) refl there (λ later. item_again open_at ps router len later)
  where
    by : (b : Bool) → is_at router len p ≡ b → (b || has_place ps router len) ≡ true →
        (has_place ps router len ≡ true →
        item_at ps (map open_at ps) router len ≡ Some (open_at (place router len))) →
        (if b then Some (open_at p) else item_at ps (map open_at ps) router len) ≡ Some (open_at (place router len))
    by true is there' rest = ap (λ q. Some (open_at q)) (at-is p router len is)
    by false is there' rest = rest there'

pub tables_again : {U : Type 0} (slot_of : Place → U → Slot) (open_at : Place → U) (f : ℕ → ℕ → Slot)
    (places : List Place) (n : ℕ) →
    ((router len : ℕ) → router < n → len < LENGTHS → has_place places router len ≡ false →
    f router len ≡ empty_slot) →
    ((router len : ℕ) → router < n → len < LENGTHS → has_place places router len ≡ true →
    slot_of (place router len) (open_at (place router len)) ≡ f router len) →
    tables_over slot_of places (map open_at places) n ≡ tabulated f n
tables_again slot_of open_at f places n off back =
    tabulated-same (slot_among slot_of places (map open_at places)) f n each
  where
    each : (q k : ℕ) → q < n → k < LENGTHS → slot_among slot_of places (map open_at places) q k ≡ f q k
    each q k below short = by (has_place places q k) refl where
      by : (b : Bool) → has_place places q k ≡ b → slot_among slot_of places (map open_at places) q k ≡ f q k
      by true some = ap (λ o. option_map_or (slot_of (place q k)) o empty_slot)
          (item_again open_at places q k some) ∙ back q k below short some
      by false none = empty_off slot_of places (map open_at places) q k none ∙ sym (off q k below short none)

-- and each of these passes the test where that is so of its place
pub all_hold_again : {U : Type 0} (holds : Place → U → Bool) (open_at : Place → U) (ps : List Place) →
    All (λ p. holds p (open_at p) ≡ true) ps → all_hold holds ps (map open_at ps) ≡ true
unfolding all_hold
all_hold_again holds open_at [] each = refl
all_hold_again holds open_at (p ∷ ps) each =
    ap₂ (λ a b. a && b) (All-head (λ q. holds q (open_at q) ≡ true) p ps each)
    (all_hold_again holds open_at ps (All-tail (λ q. holds q (open_at q) ≡ true) p ps each))
