-- Each routing of a network is read, by its shapes, from its own bits, and passes the test there.
use Rattle.std.proofs.Common.{◌≡◌, ℕ, ◌+◌, ◌*◌, ◌<◌, ◌≤◌, inl, inr, Bool, true, false, List, [], ◌∷◌, length, map, Option, Some}
use Rattle.std.proofs.Common.{None, refl, sym, ap, ◌∙◌, subst, arith, is_some}
use Rattle.std.specs.Prelude.{All, IfSome, nat_le, option_and_then, option_map, slice_get, unwrap_or}
use Rattle.std.specs.Prelude.{◌==◌, ◌&&◌, if◌then◌else◌}
use Rattle.std.proofs.lemmas.Bool.{and_from, le-leb}
use Rattle.std.proofs.lemmas.List.Elements.{All-weaker}
use Rattle.std.proofs.lemmas.Option.{same_Some}
use Rattle.mw_text.proofs.Lists.{item_there}
use Rattle.mw_text.specs.Members.{In}
use Rattle.mw_text.specs.Address.{prefix_at}
use Rattle.ios_ast.specs.declared.file.File.{File}
use Rattle.route_record.specs.declared.BgpRec.{BgpRec}
use Rattle.route_record.specs.declared.Environment.{Environment}
use Rattle.route_record.specs.declared.Failures.{Failures}
use Rattle.route_record.specs.declared.OspfRec.{OspfRec}
use Rattle.route_record.specs.declared.Plan.{Plan}
use Rattle.route_record.specs.declared.Slot.{Slot}
use Rattle.route_record.specs.declared.TheConstants.{LENGTHS}
use Rattle.route_record.specs.declared.World.{World}
use Rattle.route_record.specs.declared.tracked.Tracked.{Tracked}
use Rattle.route_record.specs.Places.{slot_at}
use Rattle.net_parts.specs.Entries.{own_is_as_good}
use Rattle.net_parts.specs.Ospf.{adjacencies}
use Rattle.net_parts.specs.Stable.{IsStableSlot}
use Rattle.net_parts.proofs.Costs.{adjacency_costs}
use Rattle.question_lang.specs.declared.question.Question.{Question}
use Rattle.route_shapes.specs.Bgp.{BgpShape, bgp_shape, learnt_number}
use Rattle.bgp_shapes.specs.Candidates.{ShapeAnnouncement, announcement_shape, environment_shape}
use Rattle.failed_links.specs.Rows.{IsAt}
use Rattle.failed_links.proofs.FailureParts.{failures_at}
use Rattle.plan_places.specs.declared.places.Place.{Place}
use Rattle.plan_places.specs.Plans.{lens_of}
use Rattle.plan_places.specs.Tables.{empty_slot}
use Rattle.slot_places.specs.declared.rooms.Room.{Room}
use Rattle.slot_places.specs.Rooms.{FitsIn, room_for}
use Rattle.slot_places.proofs.Fitting.{held_fits}
use Rattle.slot_places.proofs.PlaceLaws.{in-lens, in-places}
use Rattle.sliced_routings.specs.Slicing.{IsSliced}
use Rattle.sym_rib.specs.Sources.{entry_from}
use Rattle.sym_rib.proofs.TableEntries.{entry_same}
use Rattle.world_variables.specs.declared.unknowns.Unknown.{Unknown}
use Rattle.world_variables.specs.Packets.{is_in_set, packet_from}
use Rattle.world_variables.specs.Slots.{has_dynamic, unknown_at, unknown_of}
use Rattle.world_variables.specs.Unknowns.{FitRooms, FitsRoom, rooms_at}
use Rattle.world_variables.specs.Worlds.{opens_from as unknowns_read_from, places_in}
use Rattle.world_variables.proofs.PacketParts.{packet_at}
use Rattle.world_variables.proofs.PacketSound.{packet_complete}
use Rattle.world_variables.proofs.UnknownParts.{unknowns_read}
use Rattle.announced_shapes.specs.Environments.{IsShapeEnvironment}
use Rattle.announced_shapes.proofs.EnvironmentLaw.{environment_shapes}
use Rattle.announced_places.specs.Environments.{environment_of as announced_environment}
use Rattle.bgp_variables.specs.Rooms.{bgp_room, bgp_rooms}
use Rattle.bgp_variables.specs.Shapes.{FitBgpRooms, FitsBgpRoom}
use Rattle.bgp_variables.proofs.Fitting.{held_fits as bgp_fits}
use Rattle.bgp_variables.proofs.Reading.{bgps_read}
use Rattle.shape_worlds.specs.Worlds.{shapes_of}
use Rattle.bgp_worlds.specs.Opens.{open_at, open_of, opens_hold, opens_of, shape_world_of}
use Rattle.bgp_worlds.proofs.OpenComplete.{opens_pass, world_again}
use Rattle.bgp_worlds.proofs.OffSlices.{none_made}
use Rattle.bgp_worlds.proofs.SameShapes.{learnt_shape}
use Rattle.routing_worlds.specs.Worlds.{HasWordNetwork, IsRouting, announced_by, announced_things, bgp_at}
use Rattle.routing_worlds.specs.Worlds.{bgps_read_from, dynamic_of, environment_start, failures_read_from, is_routing, open_with, opens_from}
use Rattle.routing_worlds.specs.Worlds.{opens_with, shape_world_from, told_at, world_bits, worlds_end}
use Rattle.bgp_variables.proofs.EnvironmentReading.{environment_read}
use Rattle.routing_worlds.proofs.EnvironmentRead.{announced_again, announced_fit}

module _ (files : List File) (tracked : Tracked) (question : Question) (plan : Plan) (world : World)
    (environment : Environment) (fits : HasWordNetwork files tracked question)
    (sliced : IsSliced plan world environment) (routing : IsRouting files question world environment) where
  abbrev places : List Place
  places = places_in files plan

  costs : All (λ a. 0 < a.cost) (adjacencies files)
  costs = All-weaker (λ a. (0 < a.cost) × (a.cost ≤ 65535)) (λ a. 0 < a.cost) (λ a both. both.0) (adjacencies files)
      (adjacency_costs files fits.limits)

  -- ---- the slots at the places

  record IsThere (p : Place) : Type 0 where
    slot : Slot
    here : slot_at world.tables p.router p.len ≡ Some slot
    file : File
    found : slice_get files p.router ≡ Some file
    below : p.len < LENGTHS

  slot_there : (p : Place) → In p places → IsThere p
  slot_there p there =
      let inside = in-places (lens_of plan) (length files) p there in
      let short = (in-lens plan LENGTHS p.len inside.1).0 in
      let within = inside.0 in
      let size = routing.stable.size in
      let slot = item_there world.tables.slots (LENGTHS * p.router + p.len) (omega (arith, within, short, size)) in
      let file = item_there files p.router within in
      record { slot = slot.0; here = slot.1; file = file.0; found = file.1; below = short }

  equations : (p : Place) (is : IsThere p) →
      IsStableSlot files world.failures environment world.tables p.router is.file
      (prefix_at world.packet.dst p.len) is.slot
  equations p is = routing.stable.equations p.router p.len is.file is.slot is.found is.below is.here

  -- where there is no room there is no route
  room_held : (p : Place) (is : IsThere p) (h : OspfRec) → is.slot.ospf ≡ Some h →
      (room : Room) × (room_for files question.packets.dst p.router p.len ≡ Some room) × FitsIn room h
  room_held p is h holds =
      held_fits files question.packets.dst world.packet.dst world.failures environment world.tables routing.stable
      routing.packet.dst costs p.len is.below p.router is.slot h is.here holds

  no_route : (p : Place) (is : IsThere p) → room_for files question.packets.dst p.router p.len ≡ None →
      is.slot.ospf ≡ None
  no_route p is none = by is.slot.ospf refl
    where
      by : (o : Option OspfRec) → is.slot.ospf ≡ o → o ≡ None
      by None holds = refl
      by (Some h) holds =
          let room = room_held p is h holds in
          absurd (let no : None ≡ Some room.0 = sym none ∙ room.1 in cc)

  known : (p : Place) (is : IsThere p) → unknown_at world.tables p ≡ unknown_of is.slot
  known p is = ap (λ o. unknown_of (unwrap_or o empty_slot)) is.here

  -- ---- what is open inside fits the rooms

  told_fits : (p : Place) → In p places → (room : Option Room) →
      room_for files question.packets.dst p.router p.len ≡ room →
      FitsRoom room (if is_some room then unknown_at world.tables p else record { ospf = None; dynamic = false })
  told_fits p there None is_room = (refl, refl)
  told_fits p there (Some room) is_room =
      let is = slot_there p there in
      subst (λ (u : Unknown). IfSome u.ospf (FitsIn room)) (sym (known p is)) (by is is.slot.ospf refl)
    where
      by : (is : IsThere p) (o : Option OspfRec) → is.slot.ospf ≡ o → IfSome o (FitsIn room)
      by is None holds = tt
      by is (Some h) holds =
          let found = room_held p is h holds in
          subst (λ (r : Room). FitsIn r h) (same_Some found.0 room (sym found.1 ∙ is_room)) found.2

  told_fit : (ps : List Place) → ((p : Place) → In p ps → In p places) →
      FitRooms (rooms_at files question.packets.dst ps) (map (told_at files question world.tables) ps)
  told_fit [] stand = tt
  told_fit (p ∷ ps) stand = (
    told_fits p (stand p (inl refl)) (room_for files question.packets.dst p.router p.len) refl,
    told_fit ps (λ q there. stand q (inr there)),
  )

  -- ---- BGP routes fit their rooms

  bgp_is : (p : Place) (is : IsThere p) → bgp_at tracked world.tables p ≡ option_map (bgp_shape tracked) is.slot.bgp
  bgp_is p is = ap (λ o. option_map (bgp_shape tracked) (unwrap_or o empty_slot).bgp) is.here

  bgp_fit_one : (p : Place) → In p places →
      FitsBgpRoom (bgp_room tracked files p.router p.len) (bgp_at tracked world.tables p)
  bgp_fit_one p there =
      let is = slot_there p there in
      subst (FitsBgpRoom (bgp_room tracked files p.router p.len)) (sym (bgp_is p is))
      (bgp_fits files world.packet.dst world.failures environment world.tables tracked fits.tracks fits.limits
      routing.environment_fits routing.stable p.router p.len is.slot is.below is.here)

  bgps_fit : (ps : List Place) → ((p : Place) → In p ps → In p places) →
      FitBgpRooms (bgp_rooms tracked files ps) (map (bgp_at tracked world.tables) ps)
  bgps_fit [] stand = tt
  bgps_fit (p ∷ ps) stand = (bgp_fit_one p (stand p (inl refl)), bgps_fit ps (λ q there. stand q (inr there)))

  -- ---- what is open is that of the tables

  dynamic_is : (p : Place) (is : IsThere p) → room_for files question.packets.dst p.router p.len ≡ None →
      dynamic_of files world.failures world.packet.dst p (option_map (bgp_shape tracked) is.slot.bgp)
      ≡ has_dynamic is.slot.rib
  dynamic_is p is none =
      let own = own_is_as_good files world.failures p.router is.file (prefix_at world.packet.dst p.len) is.slot in
      let ospf = no_route p is none in
      ap (λ o. has_dynamic (option_and_then (λ (file : File). entry_from files world.failures p.router file
      (prefix_at world.packet.dst p.len) (option_map (λ (t : BgpShape). t.from)
      (option_map (bgp_shape tracked) is.slot.bgp)) None false) o)) is.found
      ∙ ap (λ l. has_dynamic (entry_from files world.failures p.router is.file (prefix_at world.packet.dst p.len) l None
      own)) (sym (learnt_shape tracked is.slot.bgp))
      ∙ ap (λ o. has_dynamic (entry_from files world.failures p.router is.file (prefix_at world.packet.dst p.len)
      (option_map (λ (h : BgpRec). learnt_number h.from) is.slot.bgp) o own)) (sym ospf)
      ∙ ap has_dynamic (entry_same files world.failures p.router is.file (prefix_at world.packet.dst p.len) is.slot own
      ∙ sym (equations p is).rib)

  open_one : (p : Place) → In p places → (room : Option Room) →
      room_for files question.packets.dst p.router p.len ≡ room →
      open_with files world.failures world.packet.dst room p
      (if is_some room then unknown_at world.tables p else record { ospf = None; dynamic = false })
      (bgp_at tracked world.tables p) ≡ open_at tracked world.tables p
  open_one p there (Some room) is_room = refl
  open_one p there None is_room =
      let is = slot_there p there in
      let bgp = bgp_is p is in
      let ospf = no_route p is is_room in
      let dynamic = ap (dynamic_of files world.failures world.packet.dst p) bgp ∙ dynamic_is p is is_room in
      (λ i. record { unknown = record { ospf = sym ospf i; dynamic = dynamic i }; bgp = bgp i })
      ∙ sym (ap (λ o. open_of tracked (unwrap_or o empty_slot)) is.here)

  opens_again : (ps : List Place) → ((p : Place) → In p ps → In p places) →
      opens_with files question world.failures world.packet.dst ps (map (told_at files question world.tables) ps)
      (map (bgp_at tracked world.tables) ps) ≡ map (open_at tracked world.tables) ps
  unfolding opens_with
  opens_again [] stand = refl
  opens_again (p ∷ ps) stand =
      let here = open_one p (stand p (inl refl)) (room_for files question.packets.dst p.router p.len) refl in
      let rest = opens_again ps (λ q there. stand q (inr there)) in
      λ i. here i ∷ rest i

  -- ---- the environment

  shape_environment : IsShapeEnvironment files tracked (environment_shape tracked environment)
  shape_environment = environment_shapes files tracked environment fits.tracks.numbers_ascend routing.environment_fits

  announced_same : announced_environment files (lens_of plan) environment.ids
      (announced_things tracked files (lens_of plan) (environment_shape tracked environment).announced)
      ≡ environment_shape tracked environment
  announced_same =
      let again = announced_again tracked files plan (environment_shape tracked environment)
      (λ end len short off. none_made (announcement_shape tracked) (λ (a : ShapeAnnouncement).
      (a.end == end) && (a.len == len)) environment.announced ((sliced len short off).announced end))
      shape_environment in
      λ i. record { ids = environment.ids; announced = again i }

  -- ---- reading

  module _ (rest : List Bool) (v : ℕ → Bool) (from : ℕ)
      (here : IsAt v from (world_bits files tracked question plan world environment rest)) where
    record IsRead : Type 0 where
      packet : packet_from question.packets v from ≡ world.packet
      failures : failures_read_from files question v from ≡ world.failures
      unknowns : unknowns_read_from files question plan v from ≡ map (told_at files question world.tables) (places_in files plan)
      bgps : bgps_read_from files tracked question plan v from ≡ map (bgp_at tracked world.tables) (places_in files plan)
      announced : announced_by files tracked question plan v from ≡ environment_shape tracked environment
      behind : IsAt v (worlds_end files tracked question plan from) rest

    read : IsRead
    unfolding world_bits unknowns_read_from
    read =
        let packet = packet_at question.packets world.packet v from _ routing.packet here in
        let failures = failures_at files question.failures world.failures v _ _ routing.failures packet.1 in
        let unknowns = unknowns_read (rooms_at files question.packets.dst (places_in files plan))
        (map (told_at files question world.tables) (places_in files plan)) v _ _
        (told_fit (places_in files plan) (λ p there. there)) failures.1 in
        let bgps = bgps_read (bgp_rooms tracked files (places_in files plan))
        (map (bgp_at tracked world.tables) (places_in files plan)) v _ _
        (bgps_fit (places_in files plan) (λ p there. there)) unknowns.1 in
        let outside = environment_read tracked files (lens_of plan) environment.ids
        (announced_things tracked files (lens_of plan) (environment_shape tracked environment).announced) v
        (environment_start files tracked question plan from) rest routing.environment_fits.ids
        routing.environment_fits.fit (announced_fit tracked files (environment_shape tracked environment).announced
        shape_environment.announced (lens_of plan)) bgps.1 in
        record {
          packet = packet.0;
          failures = failures.0;
          unknowns = unknowns.0;
          bgps = bgps.0;
          announced = (λ i. announced_environment files (lens_of plan) (outside.0 i) (outside.1 i)) ∙ announced_same;
          behind = outside.2;
        }

    opens_are : opens_from files tracked question plan v from ≡ opens_of tracked world.tables (places_in files plan)
    opens_are =
        (λ i. opens_with files question (read.failures i) (read.packet i).dst (places_in files plan) (read.unknowns i)
        (read.bgps i))
        ∙ opens_again (places_in files plan) (λ p there. there)

    pub shapes_read : shape_world_from files tracked question plan v from ≡ shapes_of tracked world environment
    unfolding shape_world_from
    shapes_read =
        (λ i. shape_world_of files question.packets.dst plan (read.packet i) (read.failures i) (opens_are i)
        (read.announced i))
        ∙ world_again tracked files question.packets.dst plan world environment fits.tracks fits.limits sliced
        routing.packet.dst costs routing.environment_fits routing.stable

    pub routing_complete : is_routing files tracked question plan v from ≡ true
    unfolding is_routing
    routing_complete =
        and_from _ _ (ap (is_in_set question.packets) read.packet
        ∙ packet_complete question.packets world.packet routing.packet)
        (and_from _ _ (ap (λ (f : Failures). nat_le (length f.links) question.failures) read.failures
        ∙ le-leb _ _ routing.failures.at_most)
        ((λ i. opens_hold tracked files question.packets.dst plan (shapes_read i) (opens_are i))
        ∙ opens_pass tracked files question.packets.dst plan world environment fits.tracks fits.limits sliced
        routing.packet.dst costs routing.environment_fits routing.stable))

    pub rest_read : IsAt v (worlds_end files tracked question plan from) rest
    rest_read = read.behind
