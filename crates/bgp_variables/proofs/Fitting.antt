-- Held routes of a stable routing, and what external peers may announce, fit their rooms.
use Rattle.std.proofs.Common.{◌≡◌, ℕ, ◌*◌, ◌+◌, ◌^◌, ◌<◌, ◌≤◌, Bool, true, false, List, [], ◌∷◌, length, map, ◌==◌}
use Rattle.std.proofs.Common.{Option, Some, None, refl, sym, ap, subst, arith, ◌∙◌, ◌-◌}
use Rattle.std.proofs.Common.{if◌then◌else◌}
use Rattle.std.specs.Prelude.{IfSome, MatchOption, nat_le, option_and_then, option_map, replicate, slice_get}
use Rattle.std.specs.List.{list_all}
use Rattle.std.proofs.lemmas.Bool.{eqb-true, leb-true, ltb-true}
use Rattle.std.proofs.lemmas.Bool.{and_parts}
use Rattle.std.proofs.lemmas.Option.{slice_get_within}
use Rattle.mw_text.proofs.Lists.{all_found, item_there}
use Rattle.mw_text.specs.Address.{prefix_at}
use Rattle.mw_text.specs.declared.address.Addr.{Addr}
use Rattle.ios_ast.specs.declared.bgp.Bgp.{Bgp}
use Rattle.ios_ast.specs.declared.bgp.Neighbour.{Neighbour}
use Rattle.ios_ast.specs.declared.file.File.{File}
use Rattle.ios_ast.specs.Deciding.{carries}
use Rattle.ios_ast.specs.Limits.{keeps_limits}
use Rattle.ios_ast.specs.Paths.{first_of, last_of}
use Rattle.route_record.specs.declared.BgpRec.{BgpRec}
use Rattle.route_record.specs.declared.Environment.{Environment}
use Rattle.route_record.specs.declared.Failures.{Failures}
use Rattle.route_record.specs.declared.Origin.{Origin}
use Rattle.route_record.specs.declared.Origin.TheVariants.{Igp, Egp, Incomplete}
use Rattle.route_record.specs.declared.Slot.{Slot}
use Rattle.route_record.specs.declared.Tables.{Tables}
use Rattle.route_record.specs.declared.TheConstants.{LENGTHS}
use Rattle.route_record.specs.declared.tracked.Tracked.{Tracked}
use Rattle.route_record.specs.Fits.{FitsBgp, FitsSlot}
use Rattle.route_record.specs.Origins.{origin_code}
use Rattle.route_record.specs.Places.{slot_at}
use Rattle.route_record.specs.Shape.{has_address, saturated}
use Rattle.route_record.proofs.Saturated.{saturated-none, saturated-small}
use Rattle.net_parts.specs.Tracked.{TracksNet}
use Rattle.net_parts.specs.World.{IsEnvironment, is_as_number, is_word}
use Rattle.route_record.specs.declared.tracked.TheConstants.{MOST_TRACKED}
use Rattle.net_parts.specs.Decisions.{DecidedByBgp}
use Rattle.net_parts.specs.Stable.{Stable}
use Rattle.route_shapes.specs.Bgp.{address_number, bgp_shape, learnt_number}
use Rattle.held_values.specs.Rooms.{FitsHeldValues, values_room}
use Rattle.held_values.proofs.Fields.{held_fits as values_fit, learnt_small, originator_small}
use Rattle.rebuilt_routes.specs.Clusters.{HasBoundedLists}
use Rattle.rebuilt_routes.proofs.Sources.{routes_in}
use Rattle.rebuilt_routes.proofs.StableShapes.{lists_bounded}
use Rattle.slot_places.specs.declared.fields.Field.{Field}
use Rattle.slot_places.specs.declared.fields.Field.TheVariants.{Addresses, Among, Bits}
use Rattle.slot_places.specs.Values.{FitsField, width_for}
use Rattle.slot_places.proofs.Widths.{in_width}
use Rattle.bgp_shapes.specs.Candidates.{ShapeAnnouncement, shape_announced}
use Rattle.announced_shapes.specs.Paths.{IsPathShape}
use Rattle.world_variables.proofs.Worlds.{value_small}
use Rattle.bgp_variables.specs.Marks.{FitMarks}
use Rattle.bgp_variables.specs.Rooms.{announcement_room, bgp_room, held_room, of_addresses, of_words, only, reflected}
use Rattle.bgp_variables.specs.Brought.{brings_bgp}
use Rattle.bgp_variables.specs.Shapes.{FitsBgpRoom, FitsShape}
use Rattle.bgp_variables.specs.declared.rooms.BgpRoom.{BgpRoom}
use Rattle.bgp_variables.proofs.NeverHeld.{never_held}

-- ---- marks

-- as many marks as there are values fit where each can be set
marks_fit : {X : Type 0} (tracked : List X) (marks : List Bool) → length marks ≡ length tracked →
    FitMarks (replicate (length tracked) true) marks
marks_fit [] [] long = tt
marks_fit [] (b ∷ marks) long = absurd (omega (arith, long))
marks_fit (t ∷ tracked) [] long = absurd (omega (arith, long))
marks_fit (t ∷ tracked) (b ∷ marks) long = (λ set. refl, marks_fit tracked marks (omega (arith, long)))

each_fit : {X : Type 0} (is : X → Bool) (tracked : List X) → FitMarks (replicate (length tracked) true) (map is tracked)
each_fit is [] = tt
each_fit is (t ∷ tracked) = (λ set. refl, each_fit is tracked)

none_fit : {X : Type 0} (tracked : List X) → FitMarks (replicate (length tracked) false) (map (λ t. false) tracked)
none_fit [] = tt
none_fit (t ∷ tracked) = (λ set. set, none_fit tracked)

-- ---- numbers

only_fits : (n m : ℕ) → m ≡ n → FitsField (only n) m
only_fits n m is = subst (λ k. FitsField (only n) k) (sym is) ((0, omega arith, refl), omega arith)

origin_small : (origin : Origin) → origin_code origin < 2 ^ 2
origin_small Igp = omega arith
origin_small Egp = omega arith
origin_small Incomplete = omega arith

-- ---- held routes

-- a number of a route that no reflector passed on is none
reflected_fits : (tracked : Tracked) (field : Field) (n : ℕ) → FitsField field n →
    (length tracked.clusters ≡ 0 → n ≡ 0) → FitsField (reflected tracked field) n
reflected_fits tracked field n fits none = by (length tracked.clusters == 0) refl
  where
    by : (b : Bool) → (length tracked.clusters == 0) ≡ b → FitsField (if b then Bits 0 else field) n
    by true is = let zero = none (eqb-true (length tracked.clusters) 0 is) in omega (arith, zero)
    by false is = fits

-- a number of 32 bits that fits a field
words_fit : (field : Field) (n : ℕ) → FitsField field n → n < 2 ^ 32 → FitsField (of_words field) n
words_fit (Bits width) n fits small = by (nat_le width 32)
  where
    by : (b : Bool) → FitsField (if b then Bits width else Bits 32) n
    by true = fits
    by false = small
words_fit (Among values) n fits small = by (list_all is_word values)
  where
    by : (b : Bool) → FitsField (if b then Among values else Bits 32) n
    by true = fits
    by false = small
words_fit (Addresses addresses) n fits small = small

-- and one of 33 bits
addresses_fit : (field : Field) (n : ℕ) → FitsField field n → n < 2 ^ 33 → FitsField (of_addresses field) n
addresses_fit (Bits width) n fits small = by (nat_le width 33)
  where
    by : (b : Bool) → FitsField (if b then Bits width else Bits 33) n
    by true = fits
    by false = small
addresses_fit (Among values) n fits small = by (list_all is_word values)
  where
    by : (b : Bool) → FitsField (if b then Among values else Bits 33) n
    by true = fits
    by false = small
addresses_fit (Addresses addresses) n fits small = by (list_all is_word addresses)
  where
    by : (b : Bool) → FitsField (if b then Addresses addresses else Bits 33) n
    by true = fits
    by false = small

-- a route with bounded lists, whose numbers are among the values of the files, fits its room
rec_fits : (tracked : Tracked) (files : List File) (rec : BgpRec) → FitsBgp rec → HasBoundedLists tracked rec →
    FitsHeldValues (values_room files) rec → length tracked.clusters ≤ MOST_TRACKED →
    FitsShape (held_room tracked files) (bgp_shape tracked rec)
unfolding held_room
rec_fits tracked files rec fits lists values most = record {
  from = addresses_fit (values_room files).from (learnt_number rec.from) values.from
      (learnt_small rec.from fits.from);
  preferences = record {
    weight = words_fit (values_room files).weight rec.weight values.weight fits.weight;
    local_pref = words_fit (values_room files).local_pref rec.local_pref values.local_pref fits.local_pref;
    med = words_fit (values_room files).med rec.med values.med fits.med;
    origin = origin_small rec.origin;
  };
  path = record {
    len = let short = lists.path in
        subst (λ k. k < 2 ^ 8) (saturated-small (length rec.path) (omega (arith, short))) (omega (arith, short));
    first = words_fit (values_room files).first (first_of rec.path) values.first
        (value_small rec.path 0 (2 ^ 32) (omega arith) fits.path);
    last = words_fit (values_room files).last (last_of rec.path) values.last
        (value_small rec.path (length rec.path - 1) (2 ^ 32) (omega arith) fits.path);
    numbers = each_fit (carries rec.path) tracked.numbers;
  };
  communities = each_fit (carries rec.communities) tracked.communities;
  next_hop = words_fit (values_room files).next_hop rec.next_hop.0 values.next_hop fits.next_hop;
  originator = reflected_fits tracked (of_addresses (values_room files).originator) (address_number rec.originator)
      (addresses_fit (values_room files).originator (address_number rec.originator) values.originator
      (originator_small rec.originator fits.originator))
      (λ none. ap address_number (lists.reflected (unlisted none)));
  cluster_len = let few = lists.clusters.few in
      let same = saturated-small (length rec.clusters) (omega (arith, few, most)) in
      reflected_fits tracked (Bits (width_for (length tracked.clusters))) (saturated (length rec.clusters))
      (subst (λ k. k < 2 ^ width_for (length tracked.clusters)) same
      (in_width (length rec.clusters) (length tracked.clusters) 0 32 few (omega (arith, few, most))))
      (λ none. ap (λ cs. saturated (length cs)) (unlisted none) ∙ saturated-none);
  clusters = each_fit (has_address rec.clusters) tracked.clusters;
}
  where
    empty : (cs : List Addr) → length cs ≤ 0 → cs ≡ []
    empty [] few = refl
    empty (c ∷ cs) few = absurd (omega (arith, few))

    unlisted : length tracked.clusters ≡ 0 → rec.clusters ≡ []
    unlisted none = let few = lists.clusters.few in empty rec.clusters (omega (arith, few, none))

-- what a slot of a stable routing holds fits its room
pub held_fits : (files : List File) (destination : Addr) (failures : Failures) (environment : Environment)
    (tables : Tables) (tracked : Tracked) → TracksNet files tracked → list_all keeps_limits files ≡ true →
    IsEnvironment files environment → Stable files destination failures environment tables → (router len : ℕ)
    (slot : Slot) → len < LENGTHS → slot_at tables router len ≡ Some slot →
    FitsBgpRoom (bgp_room tracked files router len) (option_map (bgp_shape tracked) slot.bgp)
held_fits files destination failures environment tables tracked net limits may stable router len slot below there =
    by (brings_bgp files len) refl
  where
    room : Option Bgp → Option BgpRoom
    room = option_map (λ (process : Bgp). held_room tracked files)

    holds : (rec : BgpRec) → slot.bgp ≡ Some rec → routes_in tables (prefix_at destination len) router ≡ Some rec
    holds rec is = ap (option_and_then (λ (x : Slot). x.bgp)) there ∙ is

    full : (o : Option BgpRec) → slot.bgp ≡ o → IfSome o FitsBgp →
        IfSome (option_map (bgp_shape tracked) o) (FitsShape (held_room tracked files))
    full None is fits = tt
    full (Some rec) is fits =
        rec_fits tracked files rec fits
        (lists_bounded files destination failures environment tables stable len below tracked net limits router rec
        (holds rec is))
        (values_fit tracked files destination failures environment tables len net limits may stable below router slot rec
        there is) net.few_clusters

    none : (o : Option BgpRec) → slot.bgp ≡ o → brings_bgp files len ≡ false → option_map (bgp_shape tracked) o ≡ None
    none None is never = refl
    none (Some rec) is never =
        absurd (let no : false ≡ true = never_held files destination failures environment tables stable len below tracked
        net limits never router rec (holds rec is) in cc)

    by_process : (file : File) → slice_get files router ≡ Some file → (o : Option Bgp) → file.bgp ≡ o →
        FitsBgpRoom (room o) (option_map (bgp_shape tracked) slot.bgp)
    by_process file found None runs =
        ap (option_map (bgp_shape tracked)) (subst (λ o. MatchOption o (slot.bgp ≡ None) (λ process.
        DecidedByBgp files failures environment tables router file process (prefix_at destination len) slot.bgp)) runs
        (stable.equations router len file slot found below there).bgp)
    by_process file found (Some process) runs =
        full slot.bgp refl (all_found FitsSlot tables.slots _ slot stable.fits there).bgp

    inside : router < length files
    inside =
        let place = slice_get_within tables.slots (LENGTHS * router + len) slot there in
        let size = stable.size in
        omega (arith, place, size)

    by : (b : Bool) → brings_bgp files len ≡ b →
        FitsBgpRoom (room (if b then option_and_then (λ (file : File). file.bgp) (slice_get files router) else None))
        (option_map (bgp_shape tracked) slot.bgp)
    by true is =
        let file = item_there files router inside in
        subst (λ o. FitsBgpRoom (room (option_and_then (λ (file : File). file.bgp) o))
        (option_map (bgp_shape tracked) slot.bgp)) (sym file.1) (by_process file.0 file.1 file.0.bgp refl)
    by false is = none slot.bgp refl is

-- ---- announcements

as_word : (n : ℕ) → is_as_number n ≡ true → n < 2 ^ 32
as_word n is = ltb-true n (2 ^ 32) (and_parts _ _ is).1

-- what the peer of a neighbour line may announce fits the room of its announcements, as the message that arrives
pub announced_fits : (tracked : Tracked) (neighbour : Neighbour) (s : ShapeAnnouncement) →
    IsPathShape neighbour.asn tracked.numbers s.path → s.med < 2 ^ 32 → s.origin ≤ 2 →
    length s.communities ≡ length tracked.communities →
    FitsShape (announcement_room tracked neighbour) (shape_announced tracked neighbour.addr s)
announced_fits tracked neighbour s path med origin marks = record {
  from = only_fits 0 0 refl;
  preferences = record {
    weight = only_fits 0 0 refl;
    local_pref = only_fits 0 0 refl;
    med = med;
    origin = omega (arith, origin);
  };
  path = record {
    len = let short = leb-true s.path.len 255 path.short in omega (arith, short);
    first = only_fits neighbour.asn s.path.first (eqb-true s.path.first neighbour.asn path.first);
    last = as_word s.path.last path.last;
    numbers = marks_fit tracked.numbers s.path.numbers path.marks;
  };
  communities = marks_fit tracked.communities s.communities marks;
  next_hop = only_fits neighbour.addr.0 neighbour.addr.0 refl;
  originator = only_fits 0 0 refl;
  cluster_len = only_fits 0 0 refl;
  clusters = none_fit tracked.clusters;
}
