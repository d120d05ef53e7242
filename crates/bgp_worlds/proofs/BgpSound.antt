-- The shapes of what is open of BGP hold, where each is as the decision process leaves it.
use Rattle.std.proofs.Common.{◌≡◌, ℕ, ◌+◌, ◌*◌, ◌/◌, ◌%◌, ◌<◌, ◌==◌, ◌||◌, Bool, true, false}
use Rattle.std.proofs.Common.{List, length, Option, Some, None, refl, sym, ap, ◌∙◌, arith, is_some}
use Rattle.std.specs.Prelude.{option_map, slice_get, if◌then◌else◌}
use Rattle.std.specs.List.{enumerate_from, list_all, range_with_len}
use Rattle.std.specs.Option.{option_map_or}
use Rattle.std.proofs.lemmas.Bool.{and_from, and_parts, eq-eqb, or_parts}
use Rattle.std.proofs.lemmas.List.{length-map}
use Rattle.std.proofs.lemmas.List.FromFn.{length-range_with_len}
use Rattle.std.proofs.lemmas.Option.{same_Some, slice_get-map, slice_get_within}
use Rattle.mw_text.proofs.Lists.{item_there}
use Rattle.mw_text.specs.declared.address.Prefix.{Prefix}
use Rattle.mw_text.specs.Address.{prefix_at}
use Rattle.ios_ast.specs.declared.bgp.Bgp.{Bgp}
use Rattle.ios_ast.specs.declared.file.File.{File}
use Rattle.ios_ast.specs.Limits.{keeps_limits}
use Rattle.route_record.specs.declared.Failures.{Failures}
use Rattle.route_record.specs.declared.Packet.{Packet}
use Rattle.route_record.specs.declared.Plan.{Plan}
use Rattle.route_record.specs.declared.TheConstants.{LENGTHS}
use Rattle.route_record.specs.declared.tracked.Tracked.{Tracked}
use Rattle.net_parts.specs.Tracked.{TracksNet}
use Rattle.net_parts.proofs.Defined.{none_here}
use Rattle.route_shapes.specs.Bgp.{BgpShape}
use Rattle.bgp_shapes.specs.Candidates.{ShapeEnvironment, ShapeSlot, shape_candidates}
use Rattle.bgp_shapes.specs.Held.{held_shape}
use Rattle.plan_places.specs.Places.{has_place, item_at, place, places_of}
use Rattle.plan_places.specs.Plans.{has_slice}
use Rattle.slot_places.specs.Rooms.{can_be_used, has_sources, has_subnet, room_among, rooms_of}
use Rattle.rebuilt_routes.specs.Deciding.{is_decided_shape}
use Rattle.shape_worlds.specs.Worlds.{IsRealWorld, ShapeWorld, environment_of, has_all_marks, is_decided_at}
use Rattle.shape_worlds.specs.Worlds.{may_be_announced, rebuilt_world, shape_holds, slot_holds, slots_for}
use Rattle.shape_worlds.proofs.RealWorlds.{is_real, len_at, len_small, router_at}
use Rattle.shape_worlds.proofs.Tested.{from_places}
use Rattle.bgp_worlds.specs.Opens.{AnnounceAtSlices, OpenSlot, empty_shape, is_bgp_wanted, open_shape, shape_slot_among}
use Rattle.bgp_worlds.specs.Opens.{shape_slot_of, shape_world_of}
use Rattle.bgp_worlds.proofs.OffSlices.{no_place, nothing_decided, slice_there}
use Rattle.bgp_worlds.proofs.Placed.{not_made, place_small, range-at, router_small}

-- a router runs no BGP where nothing can stand in its slot
pub no_process : (files : List File) (destinations : Prefix) (router len : ℕ) (file : File) →
    can_be_used files destinations router len ≡ false → slice_get files router ≡ Some file → file.bgp ≡ None
no_process files destinations router len file unused found =
    let front = (or_parts (has_subnet files destinations router len
    || option_map_or (has_sources destinations len) (slice_get files router) false)
    (is_some (room_among files (rooms_of files destinations) router len)) unused).0 in
    let sources = (or_parts (has_subnet files destinations router len)
    (option_map_or (has_sources destinations len) (slice_get files router) false) front).1 in
    none_here file.bgp ((or_parts _ (is_some file.bgp)
    (sym (ap (λ o. option_map_or (has_sources destinations len) o false) found) ∙ sources)).1)

-- ---- the slots of a world by shapes

module _ (files : List File) (destinations : Prefix) (plan : Plan) (packet : Packet) (failures : Failures)
    (opens : List OpenSlot) (announced : ShapeEnvironment) where
  abbrev world : ShapeWorld
  world = shape_world_of files destinations plan packet failures opens announced

  abbrev slot_among : ℕ → ℕ → ShapeSlot
  slot_among router len =
      shape_slot_among files destinations failures packet.dst (places_of plan (length files)) opens router len

  pub slot_number : (k : ℕ) → k < LENGTHS * length files →
      slice_get (shape_world_of files destinations plan packet failures opens announced).slots k
      ≡ Some (shape_slot_among files destinations failures packet.dst (places_of plan (length files)) opens
      (k / LENGTHS) (k % LENGTHS))
  slot_number k below =
      slice_get-map (λ k. slot_among (k / LENGTHS) (k % LENGTHS)) (range_with_len 0 (LENGTHS * length files)) k
      ∙ ap (option_map (λ k. slot_among (k / LENGTHS) (k % LENGTHS))) (range-at 0 (LENGTHS * length files) k below)
      ∙ (let first : 0 + k ≡ k = omega arith in ap (λ m. Some (slot_among (m / LENGTHS) (m % LENGTHS))) first)

  pub slot_here : (router len : ℕ) → router < length files → len < LENGTHS →
      slots_for (shape_world_of files destinations plan packet failures opens announced) len router
      ≡ Some (shape_slot_among files destinations failures packet.dst (places_of plan (length files)) opens router len)
  slot_here router len within below =
      let of_len = len_at router len below in
      let of_router = router_at router len below in
      slot_number (LENGTHS * router + len) (place_small router len (length files) within below)
      ∙ (λ i. Some (slot_among (of_router i) (of_len i)))

  -- nothing where nothing can stand
  pub empty_here : (router len : ℕ) → can_be_used files destinations router len ≡ false →
      shape_slot_among files destinations failures packet.dst (places_of plan (length files)) opens router len
      ≡ empty_shape
  empty_here router len unused = by (item_at (places_of plan (length files)) opens router len)
    where
      by : (o : Option OpenSlot) →
          option_map_or (shape_slot_of files destinations failures packet.dst (place router len)) o empty_shape
          ≡ empty_shape
      by None = refl
      by (Some o) = ap (λ b. if b then open_shape files failures packet.dst router len o else empty_shape) unused

  -- and nothing off the slices
  pub empty_off : (router len : ℕ) → has_slice plan len ≡ false →
      shape_slot_among files destinations failures packet.dst (places_of plan (length files)) opens router len
      ≡ empty_shape
  empty_off router len off =
      ap (λ x. option_map_or (shape_slot_of files destinations failures packet.dst (place router len)) x empty_shape)
      (not_made (places_of plan (length files)) opens router len (no_place files plan router len off))

  -- so no slot there holds anything
  pub none_off : (len : ℕ) → len < LENGTHS → has_slice plan len ≡ false → (router : ℕ) (slot : ShapeSlot) →
      slots_for (shape_world_of files destinations plan packet failures opens announced) len router ≡ Some slot →
      slot ≡ empty_shape
  none_off len short off router slot there =
      same_Some slot empty_shape (sym there
      ∙ slot_here router len within short ∙ ap Some (empty_off router len off))
    where
      within : router < length files
      within =
          let inside = slice_get_within world.slots (LENGTHS * router + len) slot there in
          let long = length-map (range_with_len 0 (LENGTHS * length files))
          (λ (k : ℕ). slot_among (k / LENGTHS) (k % LENGTHS)) in
          let count = length-range_with_len 0 (LENGTHS * length files) in
          omega (arith, inside, long, count)

  -- what is open where something can
  pub open_there : (router len : ℕ) (o : OpenSlot) → can_be_used files destinations router len ≡ true →
      item_at (places_of plan (length files)) opens router len ≡ Some o →
      shape_slot_among files destinations failures packet.dst (places_of plan (length files)) opens router len
      ≡ open_shape files failures packet.dst router len o
  open_there router len o used is =
      ap (λ x. option_map_or (shape_slot_of files destinations failures packet.dst (place router len)) x empty_shape) is
      ∙ ap (λ b. if b then open_shape files failures packet.dst router len o else empty_shape) used

-- ---- what is open of BGP

-- something is open at each place, its BGP route has its marks and is what the decision process leaves of shapes, and the
-- peers may announce what they do
pub record AreBgpWanted (tracked : Tracked) (files : List File) (destinations : Prefix) (plan : Plan) (s : ShapeWorld)
    (opens : List OpenSlot) : Type 0 where
  pub announced : may_be_announced files tracked s.environment ≡ true
  pub stands : (router len : ℕ) → has_place (places_of plan (length files)) router len ≡ true →
      (o : OpenSlot) × (item_at (places_of plan (length files)) opens router len ≡ Some o)
  pub wanted : (router len : ℕ) (file : File) (o : OpenSlot) → slice_get files router ≡ Some file → len < LENGTHS →
      can_be_used files destinations router len ≡ true →
      item_at (places_of plan (length files)) opens router len ≡ Some o →
      is_bgp_wanted tracked files s (place router len) o.bgp file ≡ true

module _ (tracked : Tracked) (files : List File) (destinations : Prefix) (plan : Plan) (packet : Packet)
    (failures : Failures) (opens : List OpenSlot) (announced : ShapeEnvironment) (net : TracksNet files tracked)
    (limits : list_all keeps_limits files ≡ true) (silent : AnnounceAtSlices plan announced)
    (are : AreBgpWanted tracked files destinations plan
    (shape_world_of files destinations plan packet failures opens announced) opens) where
  abbrev s : ShapeWorld
  s = shape_world_of files destinations plan packet failures opens announced

  abbrev among : ℕ → ℕ → ShapeSlot
  among router len =
      shape_slot_among files destinations failures packet.dst (places_of plan (length files)) opens router len

  slot_passes : (k : ℕ) (slot : ShapeSlot) → slice_get s.slots k ≡ Some slot →
      slot_holds tracked files s (k, slot) ≡ true
  slot_passes k slot there =
      by (has_slice plan len) refl (can_be_used files destinations router len) refl
    where
      router : ℕ
      router = k / LENGTHS

      len : ℕ
      len = k % LENGTHS

      small : k < LENGTHS * length files
      small =
          let within = slice_get_within s.slots k slot there in
          let long = length-map (range_with_len 0 (LENGTHS * length files)) (λ (k : ℕ). among (k / LENGTHS) (k % LENGTHS)) in
          let count = length-range_with_len 0 (LENGTHS * length files) in
          omega (arith, within, long, count)

      is : slot ≡ among (k / LENGTHS) (k % LENGTHS)
      is = same_Some slot (among (k / LENGTHS) (k % LENGTHS))
          (sym there ∙ slot_number files destinations plan packet failures opens announced k small)

      file : (f : File) × (slice_get files (k / LENGTHS) ≡ Some f)
      file = item_there files (k / LENGTHS) (router_small k (length files) small)

      decides : (held : Option BgpShape) (f : File) → slice_get files (k / LENGTHS) ≡ Some f → slot.bgp ≡ held →
          is_decided_shape tracked files failures announced (slots_for s (k % LENGTHS)) (k / LENGTHS) f
          (prefix_at packet.dst (k % LENGTHS)) held ≡ true → is_decided_at tracked files s (k, slot) ≡ true
      decides held f found same decided =
          ap (λ o. option_map_or (λ (f : File). is_decided_shape tracked files failures announced
          (slots_for s (k % LENGTHS)) (k / LENGTHS) f (prefix_at packet.dst (k % LENGTHS)) slot.bgp) o false) found
          ∙ ap (is_decided_shape tracked files failures announced (slots_for s (k % LENGTHS)) (k / LENGTHS) f
          (prefix_at packet.dst (k % LENGTHS))) same ∙ decided

      passes : (held : Option BgpShape) (f : File) → slice_get files (k / LENGTHS) ≡ Some f → slot.bgp ≡ held →
          option_map_or (has_all_marks tracked) held true ≡ true →
          is_decided_shape tracked files failures announced (slots_for s (k % LENGTHS)) (k / LENGTHS) f
          (prefix_at packet.dst (k % LENGTHS)) held ≡ true → slot_holds tracked files s (k, slot) ≡ true
      passes held f found same marks decided =
          and_from (option_map_or (has_all_marks tracked) slot.bgp true) (is_decided_at tracked files s (k, slot))
          (ap (λ o. option_map_or (has_all_marks tracked) o true) same ∙ marks) (decides held f found same decided)

      by : (b : Bool) → has_slice plan (k % LENGTHS) ≡ b → (c : Bool) →
          can_be_used files destinations (k / LENGTHS) (k % LENGTHS) ≡ c → slot_holds tracked files s (k, slot) ≡ true
      by true on true used =
          let there' = are.stands (k / LENGTHS) (k % LENGTHS)
          (slice_there files plan (k / LENGTHS) (k % LENGTHS) (router_small k (length files) small) (len_small k) on) in
          let parts = and_parts (option_map_or (has_all_marks tracked) there'.0.bgp true) _
          (are.wanted (k / LENGTHS) (k % LENGTHS) file.0 there'.0 file.1 (len_small k) used there'.1) in
          passes there'.0.bgp file.0 file.1
          (ap (λ (x : ShapeSlot). x.bgp)
          (is ∙ open_there files destinations plan packet failures opens announced (k / LENGTHS) (k % LENGTHS) there'.0
          used there'.1)) parts.0 parts.1
      by true on false unused =
          let lacks = no_process files destinations (k / LENGTHS) (k % LENGTHS) file.0 unused file.1 in
          passes None file.0 file.1
          (ap (λ (x : ShapeSlot). x.bgp)
          (is ∙ empty_here files destinations plan packet failures opens announced (k / LENGTHS) (k % LENGTHS) unused)) refl
          (ap (λ o. option_map_or (λ (b : Bgp). held_shape b.always_compare b.compare_routerid
          (shape_candidates tracked files failures announced (slots_for s (k % LENGTHS)) (k / LENGTHS) file.0 b
          (prefix_at packet.dst (k % LENGTHS))) None) o true) lacks)
      by false off c may =
          passes None file.0 file.1
          (ap (λ (x : ShapeSlot). x.bgp)
          (is ∙ empty_off files destinations plan packet failures opens announced (k / LENGTHS) (k % LENGTHS) off)) refl
          (nothing_decided tracked files failures announced (slots_for s (k % LENGTHS))
          (prefix_at packet.dst (k % LENGTHS))
          (none_off files destinations plan packet failures opens announced (k % LENGTHS) (len_small k) off)
          (λ end. silent end (k % LENGTHS) (len_small k) off) (k / LENGTHS) file.0)

  pub shapes_hold : shape_holds tracked files s ≡ true
  unfolding shape_holds
  shapes_hold =
      and_from (may_be_announced files tracked announced) _ are.announced
      (and_from (length s.slots == LENGTHS * length files)
      (list_all (slot_holds tracked files s) (enumerate_from 0 s.slots))
      (eq-eqb (length s.slots) (LENGTHS * length files)
      (length-map (range_with_len 0 (LENGTHS * length files)) (λ (k : ℕ). among (k / LENGTHS) (k % LENGTHS))
      ∙ length-range_with_len 0 (LENGTHS * length files)))
      (from_places (slot_holds tracked files s) 0 s.slots (λ k slot there.
      let first : 0 + k ≡ k = omega arith in
      ap (λ m. slot_holds tracked files s (m, slot)) first ∙ slot_passes k slot there)))

  pub real : IsRealWorld tracked files s (rebuilt_world tracked files s) (environment_of tracked s)
  real = is_real tracked files s net limits shapes_hold
