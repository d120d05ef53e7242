-- What is open of slots and passes the test makes a stable routing.
use Rattle.std.proofs.Common.{◌≡◌, ℕ, ◌+◌, ◌*◌, ◌<◌, ◌&&◌, ◌||◌, not, Bool, true, false}
use Rattle.std.proofs.Common.{List, length, Option, Some, None, refl, sym, ap, ◌∙◌, subst, arith}
use Rattle.std.specs.Prelude.{◌==◌, All, option_and_then, option_map, slice_get, if◌then◌else◌}
use Rattle.std.specs.Bool.{beq}
use Rattle.std.specs.List.{list_all}
use Rattle.std.specs.Option.{option_map_or}
use Rattle.std.proofs.lemmas.Bool.{and_parts}
use Rattle.std.proofs.lemmas.Option.{same_Some, slice_get-map, slice_get_within}
use Rattle.mw_text.proofs.Lists.{beq-true}
use Rattle.mw_text.specs.declared.address.Prefix.{Prefix}
use Rattle.mw_text.specs.Address.{covers, prefix_at}
use Rattle.ios_ast.specs.declared.file.File.{File}
use Rattle.ios_ast.specs.Limits.{keeps_limits}
use Rattle.route_record.specs.declared.BgpRec.{BgpRec}
use Rattle.route_record.specs.declared.Environment.{Environment}
use Rattle.route_record.specs.declared.Failures.{Failures}
use Rattle.route_record.specs.declared.Packet.{Packet}
use Rattle.route_record.specs.declared.Plan.{Plan}
use Rattle.route_record.specs.declared.Slot.{Slot}
use Rattle.route_record.specs.declared.Tables.{Tables}
use Rattle.route_record.specs.declared.TheConstants.{LENGTHS}
use Rattle.route_record.specs.declared.tracked.Tracked.{Tracked}
use Rattle.route_record.specs.Fits.{FitsSlot}
use Rattle.route_record.specs.Places.{slot_at}
use Rattle.net_parts.specs.Entries.{entry_with, own_is_as_good, table_entry}
use Rattle.net_parts.specs.Stable.{IsStableSlot, Stable, held_ospf}
use Rattle.net_parts.specs.Tracked.{TracksNet}
use Rattle.route_shapes.specs.Bgp.{BgpShape, bgp_shape, learnt_number}
use Rattle.announced_shapes.specs.Announcements.{rebuilt_announcement}
use Rattle.bgp_shapes.specs.Candidates.{ShapeEnvironment, ShapeSlot, slot_shape}
use Rattle.plan_places.specs.declared.places.Place.{Place}
use Rattle.plan_places.specs.Places.{item_at, place, places_of}
use Rattle.plan_places.specs.Tables.{all_hold, empty_slot}
use Rattle.plan_places.specs.Plans.{has_slice}
use Rattle.slot_places.specs.Rooms.{can_be_used, room_at, runs_ospf}
use Rattle.slot_places.proofs.Unused.{empty_stable as unused_stable}
use Rattle.alike_prefixes.proofs.Emptied.{empty_stable}
use Rattle.sliced_routings.specs.Plans.{IsFittingPlan}
use Rattle.sliced_routings.specs.Slicing.{IsSliced}
use Rattle.sliced_routings.proofs.Bare.{bare_off}
use Rattle.sym_rib.specs.Sources.{entry_from}
use Rattle.sym_rib.proofs.TableEntries.{entry_same}
use Rattle.world_variables.specs.Slots.{entry_of_bit, has_dynamic, same_ospf}
use Rattle.world_variables.proofs.Stability.{same_ospf-is}
use Rattle.shape_worlds.specs.Worlds.{IsRealWorld, ShapeWorld, environment_of, rebuilt_tables}
use Rattle.shape_worlds.specs.Worlds.{rebuilt_world, may_be_announced, shape_holds}
use Rattle.bgp_worlds.specs.Opens.{AnnounceAtSlices, HaveRooms, OpenSlot, empty_shape, is_bgp_wanted, is_igp_wanted}
use Rattle.bgp_worlds.specs.Opens.{open_shape, opens_hold, place_holds, shape_slot_among, shape_slot_of, shape_world_of}
use Rattle.bgp_worlds.proofs.BgpSound.{AreBgpWanted, empty_here, empty_off, real as real_by_bgp, shapes_hold as shapes_held}
use Rattle.bgp_worlds.proofs.BgpSound.{slot_here}
use Rattle.bgp_worlds.proofs.EntryBit.{entry_again}
use Rattle.bgp_worlds.proofs.OffSlices.{none_made, on_slice, slice_there}
use Rattle.bgp_worlds.proofs.Placed.{made}

module _ (tracked : Tracked) (files : List File) (destinations : Prefix) (plan : Plan) (packet : Packet)
    (failures : Failures) (opens : List OpenSlot) (announced : ShapeEnvironment) (net : TracksNet files tracked)
    (limits : list_all keeps_limits files ≡ true) (silent : AnnounceAtSlices plan announced)
    (holds : opens_hold tracked files destinations plan
    (shape_world_of files destinations plan packet failures opens announced) opens ≡ true) where
  abbrev s : ShapeWorld
  s = shape_world_of files destinations plan packet failures opens announced

  abbrev places : List Place
  places = places_of plan (length files)

  abbrev tables : Tables
  tables = rebuilt_tables tracked files s

  abbrev among : ℕ → ℕ → ShapeSlot
  among router len = shape_slot_among files destinations failures packet.dst places opens router len

  -- what stands at a place
  record IsOpen (router len : ℕ) (file : File) : Type 0 where
    item : OpenSlot
    is : among router len ≡ open_shape files failures packet.dst router len item
    stands : item_at places opens router len ≡ Some item
    bgp : is_bgp_wanted tracked files s (place router len) item.bgp file ≡ true
    igp : option_map_or (is_igp_wanted files s tables (place router len) item.unknown file)
        (slot_at tables router len) false ≡ true

  both : (may_be_announced files tracked announced ≡ true)
      × (all_hold (place_holds tracked files destinations s tables) places opens ≡ true)
  unfolding opens_hold
  both = and_parts (may_be_announced files tracked announced) _ holds

  open_here : (router len : ℕ) (file : File) → slice_get files router ≡ Some file → router < length files →
      len < LENGTHS → has_slice plan len ≡ true → can_be_used files destinations router len ≡ true →
      IsOpen router len file
  open_here router len file found within below on used =
      let there = made (place_holds tracked files destinations s tables) places opens router len both.1
      (slice_there files plan router len within below on) in
      let asked : option_map_or (λ (f : File). is_bgp_wanted tracked files s (place router len) there.item.bgp f
      && option_map_or (is_igp_wanted files s tables (place router len) there.item.unknown f)
      (slot_at tables router len) false) (slice_get files router) false ≡ true =
      sym (ap (λ b. not b || option_map_or (λ (f : File).
      is_bgp_wanted tracked files s (place router len) there.item.bgp f
      && option_map_or (is_igp_wanted files s tables (place router len) there.item.unknown f)
      (slot_at tables router len) false) (slice_get files router) false) used) ∙ there.passes in
      let parts = and_parts (is_bgp_wanted tracked files s (place router len) there.item.bgp file) _
      (sym (ap (λ o. option_map_or (λ (f : File).
      is_bgp_wanted tracked files s (place router len) there.item.bgp f
      && option_map_or (is_igp_wanted files s tables (place router len) there.item.unknown f)
      (slot_at tables router len) false) o false) found) ∙ asked) in
      record {
        item = there.item;
        is = ap (λ o. option_map_or (shape_slot_of files destinations failures packet.dst (place router len)) o empty_shape)
            there.is
            ∙ ap (λ b. if b then open_shape files failures packet.dst router len there.item else empty_shape) used;
        stands = there.is;
        bgp = parts.0;
        igp = parts.1;
      }

  -- ---- shapes

  -- the half that speaks of BGP
  bgp_wanted : AreBgpWanted tracked files destinations plan
      (shape_world_of files destinations plan packet failures opens announced) opens
  bgp_wanted = record {
    announced = both.0;
    stands = λ router len there.
        let is = made (place_holds tracked files destinations s tables) places opens router len both.1 there in
        (is.item, is.is);
    wanted = λ router len file o found below used is.
        let here = open_here router len file found (slice_get_within files router file found) below
        (on_slice files plan opens router len o is) used in
        subst (λ x. is_bgp_wanted tracked files s (place router len) x.bgp file ≡ true)
        (same_Some here.item o (sym here.stands ∙ is)) here.bgp;
  }

  pub shapes_hold : shape_holds tracked files
      (shape_world_of files destinations plan packet failures opens announced) ≡ true
  shapes_hold =
      shapes_held tracked files destinations plan packet failures opens announced net limits silent bgp_wanted

  pub real : IsRealWorld tracked files (shape_world_of files destinations plan packet failures opens announced)
      (rebuilt_world tracked files (shape_world_of files destinations plan packet failures opens announced))
      (environment_of tracked (shape_world_of files destinations plan packet failures opens announced))
  real = real_by_bgp tracked files destinations plan packet failures opens announced net limits silent bgp_wanted

  -- ---- the equations of a slot

  same_slots : (router len : ℕ) (slot : Slot) → router < length files → len < LENGTHS →
      slot_at tables router len ≡ Some slot → slot_shape tracked slot ≡ among router len
  same_slots router len slot within below there =
      same_Some (slot_shape tracked slot) (among router len)
      (sym (slice_get-map (slot_shape tracked) tables.slots (LENGTHS * router + len)
      ∙ ap (option_map (slot_shape tracked)) there)
      ∙ ap (λ (w : ShapeWorld). slice_get w.slots (LENGTHS * router + len)) real.shapes
      ∙ slot_here files destinations plan packet failures opens announced router len within below)

  -- ---- off the slices

  no_route : (o : Option BgpRec) → option_map (bgp_shape tracked) o ≡ None → o ≡ None
  no_route None is = refl
  no_route (Some h) is = absurd cc

  -- a slot of an empty shape is empty
  empty_by : (slot : Slot) → slot_shape tracked slot ≡ empty_shape → slot ≡ empty_slot
  empty_by slot is =
      let ospf = ap (λ (x : ShapeSlot). x.ospf) is in
      let bgp = no_route slot.bgp (ap (λ (x : ShapeSlot). x.bgp) is) in
      let rib = ap (λ (x : ShapeSlot). x.rib) is in
      λ i. record { ospf = ospf i; bgp = bgp i; rib = rib i }

  pub sliced : IsSliced plan
      (rebuilt_world tracked files (shape_world_of files destinations plan packet failures opens announced))
      (environment_of tracked (shape_world_of files destinations plan packet failures opens announced))
  sliced len below off = record {
    slots = λ router slot there. empty_by slot (same_slots router len slot (within router slot there) below there
        ∙ empty_off files destinations plan packet failures opens announced router len off);
    announced = λ end. none_made (rebuilt_announcement tracked) (λ a. (a.end == end) && (a.len == len))
        announced.announced (silent end len below off);
  }
    where
      within : (router : ℕ) (slot : Slot) → slot_at tables router len ≡ Some slot → router < length files
      within router slot there =
          let place = slice_get_within tables.slots (LENGTHS * router + len) slot there in
          let size = real.size in
          omega (arith, place, size)

  environment : Environment
  environment = environment_of tracked s

  module _ (fitting : IsFittingPlan files plan) (covered : covers destinations packet.dst ≡ true)
      (rooms : HaveRooms files destinations places opens) where
    -- a slot by its shape
    used_stable : (router len : ℕ) (file : File) (slot : Slot) → slice_get files router ≡ Some file → len < LENGTHS →
        slot_at tables router len ≡ Some slot → IsOpen router len file →
        slot_shape tracked slot ≡ among router len →
        IsStableSlot files failures (environment_of tracked s) tables router file (prefix_at packet.dst len) slot
    used_stable router len file slot found below there here same = record {
      ospf = ospf_is ∙ same_ospf-is item.unknown.ospf _ asked.0;
      bgp = real.decided router len file slot found below there;
      rib = ap (λ (x : ShapeSlot). x.rib) shape
          ∙ ap (λ o. option_map (entry_of_bit item.unknown.dynamic) (option_and_then (λ (f : File).
          entry_from files failures router f p (option_map (λ (t : BgpShape). t.from) item.bgp) item.unknown.ospf
          (not item.unknown.dynamic)) o)) found
          ∙ ap (option_map (entry_of_bit item.unknown.dynamic)) entries
          ∙ entry_again files failures router file p slot own item.unknown.dynamic bit;
    }
      where
        p : Prefix
        p = prefix_at packet.dst len

        item : OpenSlot
        item = here.item

        own : Bool
        own = own_is_as_good files failures router file (prefix_at packet.dst len) slot

        shape : slot_shape tracked slot ≡ open_shape files failures packet.dst router len here.item
        shape = same ∙ here.is

        ospf_is : slot.ospf ≡ here.item.unknown.ospf
        ospf_is = ap (λ (x : ShapeSlot). x.ospf) shape

        asked : (same_ospf here.item.unknown.ospf (held_ospf files failures tables router file (prefix_at packet.dst len))
            ≡ true)
            × (beq here.item.unknown.dynamic (has_dynamic (table_entry files failures router file
            (prefix_at packet.dst len) slot)) ≡ true)
        asked =
            and_parts (same_ospf here.item.unknown.ospf
            (held_ospf files failures tables router file (prefix_at packet.dst len))) _
            (sym (ap (λ o. option_map_or (is_igp_wanted files s tables (place router len) here.item.unknown file) o false)
            there) ∙ here.igp)

        bit : here.item.unknown.dynamic
            ≡ has_dynamic (entry_with files failures router file (prefix_at packet.dst len) slot
            (own_is_as_good files failures router file (prefix_at packet.dst len) slot))
        bit = beq-true here.item.unknown.dynamic _ asked.1

        learnt : option_map (λ (h : BgpRec). learnt_number h.from) slot.bgp
            ≡ option_map (λ (t : BgpShape). t.from) here.item.bgp
        learnt = by slot.bgp ∙ ap (λ (x : ShapeSlot). option_map (λ (t : BgpShape). t.from) x.bgp) shape
          where
            by : (o : Option BgpRec) → option_map (λ (h : BgpRec). learnt_number h.from) o
                ≡ option_map (λ (t : BgpShape). t.from) (option_map (bgp_shape tracked) o)
            by None = refl
            by (Some h) = refl

        entries : entry_from files failures router file (prefix_at packet.dst len)
            (option_map (λ (t : BgpShape). t.from) here.item.bgp) here.item.unknown.ospf (not here.item.unknown.dynamic)
            ≡ entry_with files failures router file (prefix_at packet.dst len) slot (not here.item.unknown.dynamic)
        entries =
            (λ i. entry_from files failures router file (prefix_at packet.dst len) (sym learnt i) (sym ospf_is i)
            (not here.item.unknown.dynamic))
            ∙ entry_same files failures router file (prefix_at packet.dst len) slot (not here.item.unknown.dynamic)

    -- no router holds a route of OSPF of a length without room
    held_nowhere : (len : ℕ) → len < LENGTHS → (r : ℕ) (slot : Slot) → room_at files destinations len ≡ None →
        slot_at tables r len ≡ Some slot → slot.ospf ≡ None
    held_nowhere len below r slot no_room there =
        ap (λ (x : ShapeSlot). x.ospf) (same_slots r len slot within below there)
        ∙ by (can_be_used files destinations r len) (item_at places opens r len) refl
      where
        within : r < length files
        within =
            let place = slice_get_within tables.slots (LENGTHS * r + len) slot there in
            let size = real.size in
            omega (arith, place, size)

        closed : (b : Bool) → (if b then room_at files destinations len else None) ≡ None
        closed true = no_room
        closed false = refl

        open_or : (b : Bool) (o : OpenSlot) → o.unknown.ospf ≡ None →
            (if b then open_shape files failures packet.dst r len o else empty_shape).ospf ≡ None
        open_or true o is = is
        open_or false o is = refl

        by : (b : Bool) (o : Option OpenSlot) → item_at places opens r len ≡ o →
            (option_map_or (shape_slot_of files destinations failures packet.dst (place r len)) o empty_shape).ospf ≡ None
        by b None is = refl
        by b (Some o) is =
            open_or (can_be_used files destinations r len) o (rooms r len o is (closed (runs_ospf files r)))

    slot_stable : (router len : ℕ) (file : File) (slot : Slot) → slice_get files router ≡ Some file → len < LENGTHS →
        slot_at tables router len ≡ Some slot →
        IsStableSlot files failures (environment_of tracked s) tables router file (prefix_at packet.dst len) slot
    slot_stable router len file slot found below there =
        by (has_slice plan len) refl (can_be_used files destinations router len) refl
      where
        within : router < length files
        within = slice_get_within files router file found

        some : 0 < length files
        some = omega (arith, within)

        same : slot_shape tracked slot ≡ among router len
        same = same_slots router len slot within below there

        Holds : Slot → Type 0
        Holds = IsStableSlot files failures (environment_of tracked s) tables router file (prefix_at packet.dst len)

        by : (b : Bool) → has_slice plan len ≡ b → (c : Bool) → can_be_used files destinations router len ≡ c →
            IsStableSlot files failures (environment_of tracked s) tables router file (prefix_at packet.dst len) slot
        by true on true used =
            used_stable router len file slot found below there (open_here router len file found within below on used) same
        by true on false unused =
            let is = empty_by slot
            (same ∙ empty_here files destinations plan packet failures opens announced router len unused) in
            subst Holds (sym is)
            (unused_stable files destinations packet.dst failures (environment_of tracked s) tables covered router len
            file found below unused (there ∙ ap Some is) (held_nowhere len below))
        by false off c may =
            let is = empty_by slot
            (same ∙ empty_off files destinations plan packet failures opens announced router len off) in
            subst Holds (sym is)
            (empty_stable files failures (environment_of tracked s) tables (prefix_at packet.dst len)
            (bare_off files plan fitting some packet.dst len below off) (sliced len below off) router file found)

    pub stable : All FitsSlot tables.slots → Stable files packet.dst failures (environment_of tracked s) tables
    stable fits = record {
      size = real.size;
      fits = fits;
      equations = λ router len file slot found below there. slot_stable router len file slot found below there;
    }
