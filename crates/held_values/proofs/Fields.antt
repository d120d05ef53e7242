-- Fields for known values: each value once, and each held route has room.
use Rattle.std.proofs.Common.{◌≡◌, ◌⊎◌, ℕ, ◌+◌, ◌^◌, ◌<◌, ◌==◌, ◌||◌, Bool, true, false, List, [], ◌∷◌, inl, inr, refl, sym}
use Rattle.std.proofs.Common.{arith, zero, suc, ◌-◌, ap, map, ◌∙◌, max, nat_lt, subst}
use Rattle.std.specs.Prelude.{All, IfSome, None, Option, Some, fold, if◌then◌else◌, length, slice_index}
use Rattle.std.specs.List.{flat_map, list_all, range_with_len}
use Rattle.std.proofs.lemmas.Bool.{eqb-true, ltb-true}
use Rattle.std.proofs.lemmas.List.Elements.{All-head, All-tail}
use Rattle.std.proofs.lemmas.List.FromFn.{map-range_with_len_more}
use Rattle.std.proofs.lemmas.List.Sums.{fold-append}
use Rattle.mw_text.specs.Members.{In}
use Rattle.mw_text.specs.declared.address.Addr.{Addr}
use Rattle.mw_text.proofs.Lists.{all_found}
use Rattle.ios_ast.specs.declared.file.File.{File}
use Rattle.ios_ast.specs.Deciding.{carries}
use Rattle.ios_ast.specs.Limits.{keeps_limits}
use Rattle.ios_ast.specs.Paths.{first_of, last_of}
use Rattle.route_record.specs.declared.BgpRec.{BgpRec}
use Rattle.route_record.specs.declared.Environment.{Environment}
use Rattle.route_record.specs.declared.Failures.{Failures}
use Rattle.route_record.specs.declared.Learnt.{Learnt}
use Rattle.route_record.specs.declared.Learnt.TheVariants.{Local, Peer}
use Rattle.route_record.specs.declared.Slot.{Slot}
use Rattle.route_record.specs.declared.Tables.{Tables}
use Rattle.route_record.specs.declared.TheConstants.{LENGTHS}
use Rattle.route_record.specs.declared.tracked.Tracked.{Tracked}
use Rattle.route_record.specs.Fits.{FitsBgp, FitsLearnt, FitsSlot, IsAddress, IsWord}
use Rattle.route_record.specs.Places.{slot_at}
use Rattle.net_interfaces.proofs.Options.{if_is}
use Rattle.net_parts.specs.Exports.{router_id}
use Rattle.net_parts.specs.Stable.{Stable}
use Rattle.net_parts.specs.Tracked.{TracksNet}
use Rattle.net_parts.specs.World.{IsEnvironment}
use Rattle.route_shapes.specs.Bgp.{address_number, learnt_number}
use Rattle.slot_places.specs.declared.fields.Field.{Field}
use Rattle.slot_places.specs.declared.fields.Field.TheVariants.{Bits}
use Rattle.slot_places.specs.Values.{FitsField, field_bits, field_of, once, put_once}
use Rattle.slot_places.proofs.Fitting.{fits_addresses, fits_among}
use Rattle.held_values.specs.declared.numbers.HeldNumber.{HeldNumber}
use Rattle.held_values.specs.declared.numbers.HeldNumber.TheVariants.{Med}
use Rattle.held_values.specs.Rooms.{FitsHeldValues, values_room, with_bits}
use Rattle.held_values.specs.Values.{HasHeldValues, firsts_of, has_peers, lasts_of, is_held_value, is_learnt_among}
use Rattle.held_values.specs.Values.{is_none_or_among, meds_of, next_hops_of, originators_of, ospf_bits, peers_of}
use Rattle.held_values.specs.Values.{preferences_of, said_in_file, unsaid, values_of, weights_of}
use Rattle.held_values.proofs.Held.{held_known}
use Rattle.held_values.proofs.Metrics.{bits_hold, wider}

-- first what no line need say, and then what lines say
pub values_once : (which : HeldNumber) (files : List File) →
    fold put_once (fold put_once [] (unsaid which)) (flat_map (said_in_file which) files)
    ≡ once (values_of which files)
unfolding values_of
values_once which files = sym (fold-append put_once [] (unsaid which) (flat_map (said_in_file which) files))

-- a number that stands in a list is a member
in-carried : (xs : List ℕ) (n : ℕ) → carries xs n ≡ true → In n xs
in-carried [] n there = absurd cc
in-carried (x ∷ xs) n there = by (x == n) refl there (in-carried xs n)
  where
    by : (b : Bool) → (x == n) ≡ b → (b || carries xs n) ≡ true → (carries xs n ≡ true → In n xs) → In n (x ∷ xs)
    by true same there rest = inl (sym (eqb-true x n same))
    by false same there rest = inr (rest there)

first_small : (path : List ℕ) → All IsWord path → first_of path < 2 ^ 32
first_small [] all = omega arith
first_small (n ∷ ns) all = All-head IsWord n ns all

all_below : (k : ℕ) (path : List ℕ) → All IsWord path → slice_index path k < 2 ^ 32
all_below k [] all = omega arith
all_below zero (n ∷ ns) all = All-head IsWord n ns all
all_below (suc k) (n ∷ ns) all = all_below k ns (All-tail IsWord n ns all)

-- ---- peers

pub learnt_small : (learnt : Learnt) → FitsLearnt learnt → learnt_number learnt < 2 ^ 33
learnt_small Local fits = omega arith
learnt_small (Peer a) fits = omega (arith, fits)

learnt_there : (peers : List ℕ) (learnt : Learnt) → is_learnt_among peers learnt ≡ true →
    (learnt_number learnt ≡ 0) ⊎ ((a : ℕ) × In a peers × (learnt_number learnt ≡ 2 ^ 32 + a))
learnt_there peers Local is = inl refl
learnt_there peers (Peer a) is = inr (a.0, in-carried peers a.0 is, refl)

-- ---- originators

-- the identifier of one router more
pub ids_more : (files : List File) (held : List ℕ) (router : ℕ) →
    put_once (fold put_once held (map (λ r. (router_id files r).0) (range_with_len 0 router)))
    (router_id files router).0
    ≡ fold put_once held (map (λ r. (router_id files r).0) (range_with_len 0 (router + 1)))
ids_more files held router =
    sym (ap (fold put_once held) (map-range_with_len_more (λ r. (router_id files r).0) 0 router router (omega arith))
    ∙ fold-append put_once held (map (λ r. (router_id files r).0) (range_with_len 0 router))
    ((router_id files router).0 ∷ []))

pub originator_small : (o : Option Addr) → IfSome o IsAddress → address_number o < 2 ^ 33
originator_small None fits = omega arith
originator_small (Some a) fits = omega (arith, fits)

originator_there : (ids : List ℕ) (o : Option Addr) → is_none_or_among ids o ≡ true →
    (address_number o ≡ 0) ⊎ ((a : ℕ) × In a ids × (address_number o ≡ 2 ^ 32 + a))
originator_there ids None is = inl refl
originator_there ids (Some a) is = inr (a.0, in-carried ids a.0 is, refl)

-- ---- the MED

zero_there : (files : List File) → In 0 (meds_of files)
unfolding values_of
zero_there files = inl refl

-- what lines say, and what has room in the bits of OSPF metrics, has room in their field
module _ (files : List File) (n : ℕ) (small : n < 2 ^ 32) where
  abbrev said_field : Field
  said_field = field_of (once (meds_of files))

  listed_fits : In n (meds_of files) → FitsField (with_bits said_field (ospf_bits files)) n
  listed_fits there = by (ospf_bits files == 0)
    where
      fits : FitsField said_field n
      fits = fits_among (meds_of files) n there small

      by : (b : Bool) →
          FitsField (if b then said_field else Bits (max (field_bits said_field) (ospf_bits files))) n
      by true = fits
      by false =
          wider n (field_bits said_field) (max (field_bits said_field) (ospf_bits files)) (omega arith)
          (bits_hold said_field n fits small)

  metric_fits : n < 2 ^ ospf_bits files → FitsField (with_bits said_field (ospf_bits files)) n
  metric_fits less = by (ospf_bits files == 0) refl
    where
      by : (b : Bool) → (ospf_bits files == 0) ≡ b →
          FitsField (if b then said_field else Bits (max (field_bits said_field) (ospf_bits files))) n
      by true none =
          let one : n < 2 ^ 0 = subst (λ k. n < 2 ^ k) (eqb-true (ospf_bits files) 0 none) less in
          let nothing : 0 ≡ n = omega (arith, one) in
          fits_among (meds_of files) n (subst (λ k. In k (meds_of files)) nothing (zero_there files)) small
      by false some =
          wider n (ospf_bits files) (max (field_bits said_field) (ospf_bits files)) (omega arith) less

  med_fits : is_held_value Med files n ≡ true → FitsField (with_bits said_field (ospf_bits files)) n
  med_fits = by (carries (values_of Med files) n) refl
    where
      by : (b : Bool) → carries (values_of Med files) n ≡ b → (b || nat_lt n (2 ^ ospf_bits files)) ≡ true →
          FitsField (with_bits said_field (ospf_bits files)) n
      by true there is = listed_fits (in-carried (values_of Med files) n there)
      by false missing is = metric_fits (ltb-true n (2 ^ ospf_bits files) is)

-- ---- all

fits_known : (files : List File) (rec : BgpRec) → HasHeldValues files rec → FitsBgp rec →
    FitsHeldValues (values_room files) rec
fits_known files rec known fits = record {
  from = fits_addresses (peers_of files) (learnt_number rec.from)
      (learnt_there (peers_of files) rec.from known.from) (learnt_small rec.from fits.from);
  originator = fits_addresses (originators_of files) (address_number rec.originator)
      (originator_there (originators_of files) rec.originator known.originator)
      (originator_small rec.originator fits.originator);
  weight = fits_among (weights_of files) rec.weight (in-carried (weights_of files) rec.weight known.weight)
      fits.weight;
  local_pref = fits_among (preferences_of files) rec.local_pref
      (in-carried (preferences_of files) rec.local_pref known.local_pref) fits.local_pref;
  med = by_med (has_peers files) known.med;
  next_hop = fits_among (next_hops_of files) rec.next_hop.0
      (in-carried (next_hops_of files) rec.next_hop.0 known.next_hop) fits.next_hop;
  first = fits_among (firsts_of files) (first_of rec.path)
      (in-carried (firsts_of files) (first_of rec.path) known.first) (first_small rec.path fits.path);
  last = by (has_peers files) known.last;
}
  where
    by_med : (b : Bool) → (b ≡ false → is_held_value Med files rec.med ≡ true) → FitsField
        (if b then Bits 32 else with_bits (field_of (once (meds_of files))) (ospf_bits files)) rec.med
    by_med true said = fits.med
    by_med false said = med_fits files rec.med fits.med (said refl)

    small : last_of rec.path < 2 ^ 32
    small = all_below (length rec.path - 1) rec.path fits.path

    by : (b : Bool) → (b ≡ false → carries (lasts_of files) (last_of rec.path) ≡ true) →
        FitsField (if b then Bits 32 else field_of (once (lasts_of files))) (last_of rec.path)
    by true said = small
    by false said =
        fits_among (lasts_of files) (last_of rec.path)
        (in-carried (lasts_of files) (last_of rec.path) (said refl)) small

pub held_fits : (tracked : Tracked) (files : List File) (destination : Addr) (failures : Failures)
    (environment : Environment) (tables : Tables) (len : ℕ) → TracksNet files tracked →
    list_all keeps_limits files ≡ true → IsEnvironment files environment →
    Stable files destination failures environment tables → len < LENGTHS →
    (router : ℕ) (slot : Slot) (held : BgpRec) → slot_at tables router len ≡ Some slot →
    slot.bgp ≡ Some held → FitsHeldValues (values_room files) held
held_fits tracked files destination failures environment tables len net limits may stable below router slot held there
    holds =
    fits_known files held
    (held_known tracked files destination failures environment tables len net limits may stable below router slot held
    there holds)
    (if_is FitsBgp slot.bgp held (all_found FitsSlot tables.slots _ slot stable.fits there).bgp holds)
