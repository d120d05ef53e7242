-- Each stable routing follows, by its shapes, from what is open of its slots at the places of a plan, which passes the
-- test.
use Rattle.std.proofs.Common.{◌≡◌, ℕ, ◌+◌, ◌*◌, ◌/◌, ◌%◌, ◌<◌, ◌&&◌, ◌||◌, not, Bool, true, false, List}
use Rattle.std.proofs.Common.{length, map, Option, Some, None, refl, sym, ap, ◌∙◌, subst, arith}
use Rattle.std.specs.Prelude.{All, MatchOption, option_and_then, option_map, slice_get, unwrap_or, if◌then◌else◌}
use Rattle.std.specs.Bool.{beq}
use Rattle.std.specs.List.{list_all, range_with_len}
use Rattle.std.specs.Option.{option_map_or}
use Rattle.std.proofs.lemmas.Bool.{and_from, and_parts}
use Rattle.std.proofs.lemmas.List.{length-map}
use Rattle.std.proofs.lemmas.Option.{same_Some, slice_get-map, slice_get_within}
use Rattle.mw_text.proofs.Lists.{beq-refl, item_there, list_ext}
use Rattle.mw_text.specs.Members.{In}
use Rattle.mw_text.specs.declared.address.Prefix.{Prefix}
use Rattle.mw_text.specs.Address.{covers, prefix_at}
use Rattle.ios_ast.specs.declared.file.File.{File}
use Rattle.ios_ast.specs.Limits.{keeps_limits}
use Rattle.route_record.specs.declared.BgpRec.{BgpRec}
use Rattle.route_record.specs.declared.Environment.{Environment}
use Rattle.route_record.specs.declared.Plan.{Plan}
use Rattle.route_record.specs.declared.Slot.{Slot}
use Rattle.route_record.specs.declared.Tables.{Tables}
use Rattle.route_record.specs.declared.TheConstants.{LENGTHS}
use Rattle.route_record.specs.declared.tracked.Tracked.{Tracked}
use Rattle.route_record.specs.declared.World.{World}
use Rattle.route_record.specs.Places.{slot_at}
use Rattle.net_parts.specs.Decisions.{DecidedByBgp}
use Rattle.net_parts.specs.Entries.{entry_with, own_is_as_good, table_entry}
use Rattle.net_parts.specs.Ospf.{adjacencies}
use Rattle.net_parts.specs.Stable.{IsDecided, IsStableSlot, Stable, held_ospf}
use Rattle.net_parts.specs.Tracked.{TracksNet}
use Rattle.net_parts.specs.World.{IsEnvironment}
use Rattle.route_shapes.specs.Bgp.{BgpShape, bgp_shape}
use Rattle.bgp_shapes.specs.Candidates.{ShapeSlot, environment_shape, slot_shape, slots_shape}
use Rattle.bgp_shapes.proofs.TrackedLaw.{tests_tracked}
use Rattle.plan_places.specs.declared.places.Place.{Place}
use Rattle.plan_places.specs.Places.{item_at, place, places_of}
use Rattle.plan_places.specs.Tables.{empty_slot}
use Rattle.plan_places.specs.Plans.{has_slice, lens_of}
use Rattle.slot_places.specs.Rooms.{can_be_used}
use Rattle.slot_places.proofs.Fitting.{unused_empty}
use Rattle.slot_places.proofs.Members.{all-from-in}
use Rattle.slot_places.proofs.PlaceLaws.{in-lens, in-places}
use Rattle.slot_places.proofs.Tabulated.{all_hold_again}
use Rattle.sliced_routings.specs.Slicing.{IsSliced}
use Rattle.sym_rib.specs.Sources.{entry_from}
use Rattle.sym_rib.proofs.TableEntries.{entry_same}
use Rattle.world_variables.specs.Slots.{entry_of_bit, has_dynamic, same_ospf, unknown_of}
use Rattle.world_variables.proofs.Stability.{same_ospf-same}
use Rattle.rebuilt_routes.specs.Deciding.{AreDecidedShapes}
use Rattle.shape_worlds.specs.Worlds.{IsRealWorld, ShapeWorld, environment_of, has_all_marks, may_be_announced}
use Rattle.shape_worlds.specs.Worlds.{rebuilt_tables, rebuilt_world, shape_holds, shapes_of, slots_for}
use Rattle.shape_worlds.proofs.RealWorlds.{decided_shapes, is_real, stable_holds}
use Rattle.shape_worlds.proofs.Tested.{marks_pass}
use Rattle.bgp_worlds.specs.Opens.{OpenSlot, empty_shape, is_bgp_wanted, is_igp_wanted, open_at, open_of, open_shape}
use Rattle.bgp_worlds.specs.Opens.{opens_hold, opens_of, place_holds, shape_entry, shape_slot_among, shape_slot_of}
use Rattle.bgp_worlds.specs.Opens.{shape_world_of}
use Rattle.bgp_worlds.proofs.EntryBit.{entry_again}
use Rattle.bgp_worlds.proofs.OffSlices.{no_place, slice_there}
use Rattle.bgp_worlds.proofs.SameShapes.{entries_same, held_same, learnt_shape}
use Rattle.std.proofs.lemmas.List.FromFn.{length-range_with_len}
use Rattle.shape_worlds.proofs.RealWorlds.{len_small, place_of}
use Rattle.bgp_worlds.proofs.Placed.{item_again, not_made, range-at, router_small}

module _ (tracked : Tracked) (files : List File) (destinations : Prefix) (plan : Plan) (world : World)
    (environment : Environment) (net : TracksNet files tracked) (limits : list_all keeps_limits files ≡ true)
    (sliced : IsSliced plan world environment) (covered : covers destinations world.packet.dst ≡ true)
    (costs : All (λ a. 0 < a.cost) (adjacencies files)) (may : IsEnvironment files environment)
    (stable : Stable files world.packet.dst world.failures environment world.tables) where
  abbrev s : ShapeWorld
  s = shapes_of tracked world environment

  abbrev places : List Place
  places = places_of plan (length files)

  abbrev opens : List OpenSlot
  opens = opens_of tracked world.tables places

  abbrev among : ℕ → ℕ → ShapeSlot
  among router len = shape_slot_among files destinations world.failures world.packet.dst places opens router len

  -- ---- the slots

  record IsSlot (router len : ℕ) : Type 0 where
    slot : Slot
    here : slot_at world.tables router len ≡ Some slot
    file : File
    found : slice_get files router ≡ Some file

  slot_there : (router len : ℕ) → router < length files → len < LENGTHS → IsSlot router len
  slot_there router len within below =
      let slot = item_there world.tables.slots (LENGTHS * router + len) (omega (arith, within, below, stable.size)) in
      let file = item_there files router within in
      record { slot = slot.0; here = slot.1; file = file.0; found = file.1 }

  -- a slot follows from what is open of it, by its shape
  slot_again : (router len : ℕ) → len < LENGTHS → (is : IsSlot router len) →
      open_shape files world.failures world.packet.dst router len (open_of tracked is.slot) ≡ slot_shape tracked is.slot
  slot_again router len below is =
      λ i. record { ospf = is.slot.ospf; bgp = option_map (bgp_shape tracked) is.slot.bgp; rib = entry i }
    where
      p : Prefix
      p = prefix_at world.packet.dst len

      bit : Bool
      bit = has_dynamic is.slot.rib

      own : Bool
      own = own_is_as_good files world.failures router is.file (prefix_at world.packet.dst len) is.slot

      rib : is.slot.rib ≡ entry_with files world.failures router is.file (prefix_at world.packet.dst len) is.slot
          (own_is_as_good files world.failures router is.file (prefix_at world.packet.dst len) is.slot)
      rib = (stable.equations router len is.file is.slot is.found below is.here).rib

      entry : shape_entry files world.failures world.packet.dst router len (open_of tracked is.slot) ≡ is.slot.rib
      entry =
          ap (λ o. option_map (entry_of_bit (has_dynamic is.slot.rib)) (option_and_then (λ (f : File).
          entry_from files world.failures router f (prefix_at world.packet.dst len)
          (option_map (λ (t : BgpShape). t.from) (option_map (bgp_shape tracked) is.slot.bgp)) is.slot.ospf
          (not (has_dynamic is.slot.rib))) o)) is.found
          ∙ ap (λ l. option_map (entry_of_bit (has_dynamic is.slot.rib)) (entry_from files world.failures router is.file
          (prefix_at world.packet.dst len) l is.slot.ospf (not (has_dynamic is.slot.rib))))
          (sym (learnt_shape tracked is.slot.bgp))
          ∙ ap (option_map (entry_of_bit (has_dynamic is.slot.rib)))
          (entry_same files world.failures router is.file (prefix_at world.packet.dst len) is.slot
          (not (has_dynamic is.slot.rib)))
          ∙ entry_again files world.failures router is.file (prefix_at world.packet.dst len) is.slot own
          (has_dynamic is.slot.rib) (ap has_dynamic rib) ∙ sym rib

  open_is : (router len : ℕ) (is : IsSlot router len) →
      open_at tracked world.tables (place router len) ≡ open_of tracked is.slot
  open_is router len is = ap (λ o. open_of tracked (unwrap_or o empty_slot)) is.here

  among_is : (router len : ℕ) → router < length files → len < LENGTHS → (is : IsSlot router len) →
      among router len ≡ slot_shape tracked is.slot
  among_is router len within below is =
      by (has_slice plan len) refl (can_be_used files destinations router len) refl
    where
      stands : Option OpenSlot → ShapeSlot
      stands o = option_map_or (shape_slot_of files destinations world.failures world.packet.dst (place router len)) o
          empty_shape

      empty : (o : Option OpenSlot) → can_be_used files destinations router len ≡ false →
          option_map_or (shape_slot_of files destinations world.failures world.packet.dst (place router len)) o
          empty_shape ≡ empty_shape
      empty None unused = refl
      empty (Some o) unused =
          ap (λ b. if b then open_shape files world.failures world.packet.dst router len o else empty_shape) unused

      by : (b : Bool) → has_slice plan len ≡ b → (c : Bool) → can_be_used files destinations router len ≡ c →
          among router len ≡ slot_shape tracked is.slot
      by true on true used =
          ap stands (item_again (open_at tracked world.tables) places router len
          (slice_there files plan router len within below on))
          ∙ ap (λ b. if b then open_shape files world.failures world.packet.dst router len
          (open_at tracked world.tables (place router len)) else empty_shape) used
          ∙ ap (open_shape files world.failures world.packet.dst router len) (open_is router len is)
          ∙ slot_again router len below is
      by true on false unused =
          let nothing = unused_empty files destinations world.packet.dst world.failures environment world.tables stable
          covered costs len below router is.slot is.here unused in
          empty (item_at places opens router len) unused ∙ sym (ap (slot_shape tracked) nothing)
      by false off c may =
          ap stands (not_made places opens router len (no_place files plan router len off))
          ∙ sym (ap (slot_shape tracked) ((sliced len below off).slots router is.slot is.here))

  -- the world by shapes of what is open is that of the routing
  pub world_again : shape_world_of files destinations plan world.packet world.failures opens
      (environment_shape tracked environment) ≡ shapes_of tracked world environment
  world_again =
      let slots = list_ext (map (λ k. among (k / LENGTHS) (k % LENGTHS)) (range_with_len 0 (LENGTHS * length files)))
      (map (slot_shape tracked) world.tables.slots)
      (length-map (range_with_len 0 (LENGTHS * length files)) (λ (k : ℕ). among (k / LENGTHS) (k % LENGTHS))
      ∙ length-range_with_len 0 (LENGTHS * length files) ∙ sym stable.size
      ∙ sym (length-map world.tables.slots (slot_shape tracked))) agree in
      λ i. record {
        packet = world.packet;
        failures = world.failures;
        slots = slots i;
        environment = environment_shape tracked environment;
      }
    where
      agree : (k : ℕ) (x y : ShapeSlot) →
          slice_get (map (λ k. among (k / LENGTHS) (k % LENGTHS)) (range_with_len 0 (LENGTHS * length files))) k ≡ Some x →
          slice_get (map (slot_shape tracked) world.tables.slots) k ≡ Some y → x ≡ y
      agree k x y made there =
          let long = length-map world.tables.slots (slot_shape tracked) in
          let inside = slice_get_within (map (slot_shape tracked) world.tables.slots) k y there in
          let size = stable.size in
          let small : k < LENGTHS * length files = omega (arith, long, inside, size) in
          let first : 0 + k ≡ k = omega arith in
          let is = slot_there (k / LENGTHS) (k % LENGTHS) (router_small k (length files) small) (len_small k) in
          same_Some x y (sym made
          ∙ slice_get-map (λ k. among (k / LENGTHS) (k % LENGTHS)) (range_with_len 0 (LENGTHS * length files)) k
          ∙ ap (option_map (λ k. among (k / LENGTHS) (k % LENGTHS))) (range-at 0 (LENGTHS * length files) k small)
          ∙ ap (λ m. Some (among (m / LENGTHS) (m % LENGTHS))) first
          ∙ ap Some (among_is (k / LENGTHS) (k % LENGTHS) (router_small k (length files) small) (len_small k) is)
          ∙ sym (slice_get-map (slot_shape tracked) world.tables.slots k
          ∙ ap (λ m. option_map (slot_shape tracked) (slice_get world.tables.slots m)) (sym (place_of k))
          ∙ ap (option_map (slot_shape tracked)) is.here) ∙ there)

  -- ---- the test

  shapes_pass : shape_holds tracked files (shapes_of tracked world environment) ≡ true
  shapes_pass = stable_holds tracked files world environment net limits may stable

  announced : may_be_announced files tracked (environment_shape tracked environment) ≡ true
  unfolding shape_holds
  announced = (and_parts (may_be_announced files tracked (environment_shape tracked environment)) _ shapes_pass).0

  real : IsRealWorld tracked files s (rebuilt_world tracked files s) (environment_of tracked s)
  real = is_real tracked files s net limits shapes_pass

  abbrev tables : Tables
  tables = rebuilt_tables tracked files s

  decided : (len : ℕ) → len < LENGTHS →
      AreDecidedShapes tracked files world.failures (environment_shape tracked environment) (slots_for s len)
      (prefix_at world.packet.dst len)
  decided len below = decided_shapes tracked files s net limits shapes_pass len below

  bgp_none : (file : File) (held : Option BgpRec) → file.bgp ≡ None → (tables' : Tables) (environment' : Environment)
      (router : ℕ) (p : Prefix) → IsDecided files world.failures environment' tables' router file p held → held ≡ None
  bgp_none file held lacks tables' environment' router p is =
      subst (λ o. MatchOption o (held ≡ None) (λ process. DecidedByBgp files world.failures environment' tables' router
      file process p held)) lacks is

  -- the slots of the tables that are made of the shapes
  record IsRebuiltSlot (router len : ℕ) (is : IsSlot router len) : Type 0 where
    slot : Slot
    here : slot_at tables router len ≡ Some slot
    same : slot_shape tracked slot ≡ slot_shape tracked is.slot

  rebuilt_there : (router len : ℕ) → router < length files → len < LENGTHS → (is : IsSlot router len) →
      IsRebuiltSlot router len is
  rebuilt_there router len within below is =
      let slot = item_there tables.slots (LENGTHS * router + len) (omega (arith, within, below, real.size)) in
      record {
        slot = slot.0;
        here = slot.1;
        same = same_Some (slot_shape tracked slot.0) (slot_shape tracked is.slot)
            (sym (slice_get-map (slot_shape tracked) tables.slots (LENGTHS * router + len)
            ∙ ap (option_map (slot_shape tracked)) slot.1)
            ∙ ap (λ (w : ShapeWorld). slice_get w.slots (LENGTHS * router + len)) real.shapes
            ∙ slice_get-map (slot_shape tracked) world.tables.slots (LENGTHS * router + len)
            ∙ ap (option_map (slot_shape tracked)) is.here);
      }

  shapes_same : (len r : ℕ) → slots_shape tracked tables len r ≡ slots_shape tracked world.tables len r
  shapes_same len r =
      sym (slice_get-map (slot_shape tracked) tables.slots (LENGTHS * r + len))
      ∙ ap (λ (w : ShapeWorld). slice_get w.slots (LENGTHS * r + len)) real.shapes
      ∙ slice_get-map (slot_shape tracked) world.tables.slots (LENGTHS * r + len)

  igp_passes : (router len : ℕ) → router < length files → (below : len < LENGTHS) → (is : IsSlot router len) →
      option_map_or (is_igp_wanted files s tables (place router len) (unknown_of is.slot) is.file)
      (slot_at tables router len) false ≡ true
  igp_passes router len within below is =
      ap (λ o. option_map_or (is_igp_wanted files s tables (place router len) (unknown_of is.slot) is.file) o false)
      made.here
      ∙ and_from (same_ospf is.slot.ospf (held_ospf files world.failures tables router is.file p)) _
      (subst (λ o. same_ospf is.slot.ospf o ≡ true) (equations.ospf ∙ sym held) (same_ospf-same is.slot.ospf))
      (subst (λ e. beq (has_dynamic is.slot.rib) (has_dynamic e) ≡ true) (equations.rib ∙ sym entries)
      (beq-refl (has_dynamic is.slot.rib)))
    where
      p : Prefix
      p = prefix_at world.packet.dst len

      made : IsRebuiltSlot router len is
      made = rebuilt_there router len within below is

      equations : IsStableSlot files world.failures environment world.tables router is.file
          (prefix_at world.packet.dst len) is.slot
      equations = stable.equations router len is.file is.slot is.found below is.here

      none : is.file.bgp ≡ None → (made.slot.bgp ≡ None) × (is.slot.bgp ≡ None)
      none lacks = (
        bgp_none is.file made.slot.bgp lacks tables (environment_of tracked s) router (prefix_at world.packet.dst len)
            (real.decided router len is.file made.slot is.found below made.here),
        bgp_none is.file is.slot.bgp lacks world.tables environment router (prefix_at world.packet.dst len)
            (stable.equations router len is.file is.slot is.found below is.here).bgp,
      )

      held : held_ospf files world.failures tables router is.file (prefix_at world.packet.dst len)
          ≡ held_ospf files world.failures world.tables router is.file (prefix_at world.packet.dst len)
      held =
          held_same tracked files world.failures (tests_tracked files tracked net) router is.file is.found
          (prefix_at world.packet.dst len) made.slot is.slot made.same none tables world.tables made.here is.here
          (shapes_same len)

      entries : table_entry files world.failures router is.file (prefix_at world.packet.dst len) made.slot
          ≡ table_entry files world.failures router is.file (prefix_at world.packet.dst len) is.slot
      entries =
          entries_same tracked files world.failures (tests_tracked files tracked net) router is.file is.found
          (prefix_at world.packet.dst len) made.slot is.slot made.same none

  bgp_passes : (router len : ℕ) → (below : len < LENGTHS) → (is : IsSlot router len) →
      is_bgp_wanted tracked files s (place router len) (option_map (bgp_shape tracked) is.slot.bgp) is.file ≡ true
  bgp_passes router len below is =
      and_from (option_map_or (has_all_marks tracked) (option_map (bgp_shape tracked) is.slot.bgp) true) _
      (marks (option_map (bgp_shape tracked) is.slot.bgp) refl)
      ((decided len below).decided router is.file (slot_shape tracked is.slot) is.found shape_here)
    where
      shape_here : slots_for s len router ≡ Some (slot_shape tracked is.slot)
      shape_here =
          slice_get-map (slot_shape tracked) world.tables.slots (LENGTHS * router + len)
          ∙ ap (option_map (slot_shape tracked)) is.here

      marks : (o : Option BgpShape) → option_map (bgp_shape tracked) is.slot.bgp ≡ o →
          option_map_or (has_all_marks tracked) o true ≡ true
      marks None same = refl
      marks (Some t) same =
          marks_pass tracked t ((decided len below).marks router t
          (ap (option_and_then (λ (x : ShapeSlot). x.bgp)) shape_here ∙ same))

  place_passes : (router len : ℕ) → router < length files → len < LENGTHS →
      place_holds tracked files destinations s tables (place router len) (open_at tracked world.tables (place router len))
      ≡ true
  place_passes router len within below = by (can_be_used files destinations router len)
    where
      is : IsSlot router len
      is = slot_there router len within below

      asks : OpenSlot → Bool
      asks o =
          option_map_or (λ (f : File). is_bgp_wanted tracked files s (place router len) o.bgp f
          && option_map_or (is_igp_wanted files s tables (place router len) o.unknown f) (slot_at tables router len) false)
          (slice_get files router) false

      asked : asks (open_at tracked world.tables (place router len)) ≡ true
      asked =
          ap asks (open_is router len (slot_there router len within below))
          ∙ ap (λ o. option_map_or (λ (f : File). is_bgp_wanted tracked files s (place router len)
          (option_map (bgp_shape tracked) is.slot.bgp) f
          && option_map_or (is_igp_wanted files s tables (place router len) (unknown_of is.slot) f)
          (slot_at tables router len) false) o false) is.found
          ∙ and_from (is_bgp_wanted tracked files s (place router len) (option_map (bgp_shape tracked) is.slot.bgp) is.file)
          _ (bgp_passes router len below is) (igp_passes router len within below is)

      by : (b : Bool) → (not b || asks (open_at tracked world.tables (place router len))) ≡ true
      by false = refl
      by true = asked

  inside : (p : Place) → In p places → (p.router < length files) × (p.len < LENGTHS)
  inside p here =
      let found = in-places (lens_of plan) (length files) p here in
      (found.0, (in-lens plan LENGTHS p.len found.1).0)

  pub opens_pass : opens_hold tracked files destinations plan s opens ≡ true
  unfolding opens_hold
  opens_pass =
      and_from (may_be_announced files tracked (environment_shape tracked environment)) _ announced
      (all_hold_again (place_holds tracked files destinations s tables) (open_at tracked world.tables) places
      (all-from-in (λ p. place_holds tracked files destinations s tables p (open_at tracked world.tables p) ≡ true) places
      (λ p here. let within = inside p here in place_passes p.router p.len within.0 within.1)))
