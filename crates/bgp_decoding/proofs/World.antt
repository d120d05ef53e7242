-- What is read of values that are a routing is the world by shapes that they stand for.
use Rattle.std.proofs.Common.{◌≡◌, ◌+◌, ◌*◌, ◌<◌, true, List, [], ◌∷◌, Option, Some, None}
use Rattle.std.proofs.Common.{◌++◌, length, map, refl, sym, ap, ◌∙◌, append_assoc}
use Rattle.std.specs.Option.{option_map_or}
use Rattle.std.specs.Prelude.{All, option_and_then, option_map, slice_get, if◌then◌else◌}
use Rattle.std.specs.List.{enumerate_from, range_with_len}
use Rattle.std.proofs.lemmas.List.{length-append, length-map}
use Rattle.std.proofs.lemmas.List.Elements.{All-head, All-tail}
use Rattle.std.proofs.lemmas.Simd.{map-map}
use Rattle.mw_text.specs.declared.address.Addr.{Addr}
use Rattle.route_record.specs.declared.BgpRec.{BgpRec}
use Rattle.route_record.specs.declared.Environment.{Environment}
use Rattle.route_record.specs.declared.Failures.{Failures}
use Rattle.route_record.specs.declared.Packet.{Packet}
use Rattle.route_record.specs.declared.Slot.{Slot}
use Rattle.route_record.specs.declared.TheConstants.{LENGTHS}
use Rattle.route_record.specs.declared.World.{World}
use Rattle.route_record.specs.declared.tracked.Tracked.{Tracked}
use Rattle.route_shapes.specs.Bgp.{BgpShape, bgp_shape}
use Rattle.bgp_shapes.specs.Candidates.{ShapeSlot, slot_shape}
use Rattle.plan_places.specs.declared.places.Place.{Place}
use Rattle.plan_places.specs.Places.{item_at, place}
use Rattle.plan_places.specs.Plans.{lens_of, single_plan}
use Rattle.plan_places.proofs.PlaceSteps.{places-length}
use Rattle.slot_places.specs.Rooms.{can_be_used, room_for}
use Rattle.world_variables.specs.declared.unknowns.Unknown.{Unknown}
use Rattle.world_variables.specs.Packets.{packet_from}
use Rattle.world_variables.specs.Worlds.{opens_from as unknowns_read_from, places_in, slots_start}
use Rattle.world_variables.proofs.DecodingSteps.{many_unknowns, places_short}
use Rattle.bgp_variables.specs.Environments.{ids_from}
use Rattle.bgp_variables.specs.Rooms.{bgp_rooms}
use Rattle.bgp_values.specs.Told.{as_told}
use Rattle.bgp_values.proofs.RealShapes.{real_told}
use Rattle.shape_worlds.specs.Worlds.{ShapeWorld, shapes_of}
use Rattle.bgp_worlds.specs.Opens.{OpenSlot, empty_shape, shape_slot_among, shape_slot_of, shape_world_of}
use Rattle.path_rebuild.specs.declared.Rebuilt.{Rebuilt}
use Rattle.path_rebuild.specs.declared.ShapeRec.{ShapeRec}
use Rattle.path_rebuild.specs.Environments.{environment_of}
use Rattle.path_rebuild.specs.Shapes.{route_of}
use Rattle.path_rebuild.specs.Tables.{IsMadeOf, IsWorldOf, shape_slot}
use Rattle.routing_worlds.specs.Worlds.{HasWordNetwork, announced_by, bgps_read_from, bgps_start, environment_from}
use Rattle.routing_worlds.specs.Worlds.{is_routing, open_with, opens_from, shape_world_from, world_from}
use Rattle.routing_worlds.proofs.RoutingSound.{shapes_are}
use Rattle.bgp_decoding.specs.declared.inside.Inside.{Inside}
use Rattle.bgp_decoding.specs.declared.outside.Outside.{Outside}
use Rattle.bgp_decoding.specs.Decoded.{Given, IsInside, IsOutside, destination_of, failures_of, held_at, slot_at, start_of, told_at}
use Rattle.bgp_decoding.specs.Placed.{full_places}
use Rattle.bgp_decoding.specs.Slots.{slot_without}
use Rattle.bgp_decoding.proofs.Announced.{announced_same}
use Rattle.bgp_decoding.proofs.Numbered.{by_number, numbered}
use Rattle.bgp_decoding.proofs.Placed.{both_none, item_map}
use Rattle.bgp_decoding.proofs.SlotSteps.{item_opens, read_slot, routes_many, slot_same, with_route}

-- ---- lists

-- what holds of the items on which two functions agree
along : {A B C : Type 0} (P : A → Type 0) (f g : A → B) (h k : A → C) → ((x : A) → P x → f x ≡ g x → h x ≡ k x) →
    (xs : List A) → All P xs → map f xs ≡ map g xs → map h xs ≡ map k xs
along P f g h k each [] all same = refl
along {A} {B} {C} P f g h k each (x ∷ xs) all same =
    let here = each x (All-head P x xs all) (heads (f x) (g x) (map f xs) (map g xs) same) in
    let rest = along P f g h k each xs (All-tail P x xs all) (tails (f x) (g x) (map f xs) (map g xs) same) in
    λ i. here i ∷ rest i
  where
    heads : (a b : B) (xs ys : List B) → a ∷ xs ≡ b ∷ ys → a ≡ b
    heads a b xs ys is = cc

    tails : (a b : B) (xs ys : List B) → a ∷ xs ≡ b ∷ ys → xs ≡ ys
    tails a b xs ys is = cc

-- slots and routes in the order of the same places
joined : (tracked : Tracked) (slot_for : Place → Slot) (held_for : Place → Option BgpShape) (ps : List Place)
    (front held : List (Option ShapeRec)) → map (option_map (route_of tracked)) held ≡ map held_for ps →
    map (shape_slot tracked (front ++ held)) (enumerate_from (length front) (map slot_for ps))
    ≡ map (λ p. with_route (slot_for p) (held_for p)) ps
joined tracked slot_for held_for [] front held same = refl
joined tracked slot_for held_for (p ∷ ps) front [] same = absurd cc
joined tracked slot_for held_for (p ∷ ps) front (h ∷ held) same =
    let one : Option BgpShape = option_map (route_of tracked) h in
    let next : length front + 1 ≡ length (front ++ h ∷ []) = sym (length-append front (h ∷ [])) in
    let bgp = ap (λ o. option_map (route_of tracked) (option_and_then (λ (t : Option ShapeRec). t) o)) (found front)
    ∙ heads one (held_for p) (map (option_map (route_of tracked)) held) (map held_for ps) same in
    let rest = ap (λ k. map (shape_slot tracked (front ++ h ∷ held)) (enumerate_from k (map slot_for ps))) next
    ∙ ap (λ hs. map (shape_slot tracked hs) (enumerate_from (length (front ++ h ∷ [])) (map slot_for ps)))
    (sym (append_assoc front (h ∷ []) held))
    ∙ joined tracked slot_for held_for ps (front ++ h ∷ []) held
    (tails one (held_for p) (map (option_map (route_of tracked)) held) (map held_for ps) same) in
    λ i. with_route (slot_for p) (bgp i) ∷ rest i
  where
    heads : (a b : Option BgpShape) (xs ys : List (Option BgpShape)) → a ∷ xs ≡ b ∷ ys → a ≡ b
    heads a b xs ys is = cc

    tails : (a b : Option BgpShape) (xs ys : List (Option BgpShape)) → a ∷ xs ≡ b ∷ ys → xs ≡ ys
    tails a b xs ys is = cc

    found : (xs : List (Option ShapeRec)) → slice_get (xs ++ h ∷ held) (length xs) ≡ Some h
    found [] = refl
    found (x ∷ xs) = found xs

-- ---- the shapes of real slots are read as they are

real_slots : (tracked : Tracked) (slots : List Slot) →
    map read_slot (map (slot_shape tracked) slots) ≡ map (slot_shape tracked) slots
real_slots tracked [] = refl
real_slots tracked (slot ∷ slots) =
    let here = by slot.bgp in
    let rest = real_slots tracked slots in
    λ i. record { ospf = slot.ospf; bgp = here i; rib = slot.rib } ∷ rest i
  where
    by : (o : Option BgpRec) → option_map as_told (option_map (bgp_shape tracked) o) ≡ option_map (bgp_shape tracked) o
    by None = refl
    by (Some r) = ap Some (real_told tracked r)

-- ---- the world

module _ (g : Given) (fits : HasWordNetwork g.files g.tracked g.question)
    (holds : is_routing g.files g.tracked g.question g.plan g.values 0 ≡ true) (inside : Inside) (outside : Outside)
    (in_is : IsInside g inside) (out_is : IsOutside g.tracked g.files (lens_of g.plan) g.values (start_of g) outside)
  where
    abbrev s : ShapeWorld
    s = shape_world_of g.files g.question.packets.dst g.plan (packet_from g.question.packets g.values 0) (failures_of g)
        (opens_from g.files g.tracked g.question g.plan g.values 0)
        (announced_by g.files g.tracked g.question g.plan g.values 0)

    abbrev world : World
    world = world_from g.files g.tracked g.question g.plan g.values 0

    abbrev environment : Environment
    environment = environment_from g.files g.tracked g.question g.plan g.values 0

    same : s ≡ shapes_of g.tracked world environment
    unfolding shape_world_from
    same = sym (shapes_are g.files g.tracked g.question g.plan g.values 0 fits holds)

    abbrev places : List Place
    places = places_in g.files g.plan

    abbrev unknowns : Place → Option Unknown
    unknowns p = item_at places (unknowns_read_from g.files g.question g.plan g.values 0) p.router p.len

    abbrev said : Place → Option (Option BgpShape)
    said p = item_at places (bgps_read_from g.files g.tracked g.question g.plan g.values 0) p.router p.len

    abbrev shape_for : Place → ShapeSlot
    shape_for p = shape_slot_among g.files g.question.packets.dst (failures_of g) (destination_of g) places
        (opens_from g.files g.tracked g.question g.plan g.values 0) p.router p.len

    placed : s.slots ≡ map shape_for (full_places (length g.files))
    placed =
        sym (map-map shape_for by_number (range_with_len 0 (LENGTHS * length g.files)))
        ∙ ap (map shape_for) (sym (numbered (length g.files)))

    read : map (λ p. read_slot (shape_for p)) (full_places (length g.files)) ≡ map shape_for (full_places (length g.files))
    read =
        sym (map-map read_slot shape_for (full_places (length g.files))) ∙ ap (map read_slot) (sym placed)
        ∙ ap (λ (x : ShapeWorld). map read_slot x.slots) same ∙ real_slots g.tracked world.tables.slots
        ∙ sym (ap (λ (x : ShapeWorld). x.slots) same) ∙ placed

    unknowns_many : length (unknowns_read_from g.files g.question g.plan g.values 0) ≡ length places
    unfolding unknowns_read_from
    unknowns_many =
        many_unknowns g.files g.question.packets.dst g.plan g.values (slots_start g.files g.question 0)
        ∙ sym (places-length (lens_of g.plan) (length g.files))

    said_many : length (bgps_read_from g.files g.tracked g.question g.plan g.values 0) ≡ length places
    said_many =
        routes_many (bgp_rooms g.tracked g.files places) g.values (bgps_start g.files g.question g.plan 0)
        ∙ length-map places _

    one : (p : Place) → p.len < LENGTHS → read_slot (shape_for p) ≡ shape_for p →
        with_route (slot_at g p) (held_at g p) ≡ shape_for p
    one p short is =
        ap (λ o. with_route (slot_without g.files g.question.packets.dst (failures_of g) (destination_of g) p (unknowns p)
        (option_map (λ (t : BgpShape). t.from) o))
        (if can_be_used g.files g.question.packets.dst p.router p.len then o else None)) told_is
        ∙ slot_same g.files g.question.packets.dst (failures_of g) (destination_of g) p.router p.len short (unknowns p)
        (said p)
        (λ none. both_none places (unknowns_read_from g.files g.question g.plan g.values 0)
        (bgps_read_from g.files g.tracked g.question g.plan g.values 0) p.router p.len unknowns_many none)
        (λ none. both_none places (bgps_read_from g.files g.tracked g.question g.plan g.values 0)
        (unknowns_read_from g.files g.question g.plan g.values 0) p.router p.len said_many none)
        (ap (λ o. read_slot (among o)) (sym opened) ∙ is ∙ ap among opened)
        ∙ sym (ap among opened)
      where
        among : Option OpenSlot → ShapeSlot
        among o = option_map_or (shape_slot_of g.files g.question.packets.dst (failures_of g) (destination_of g)
            (place p.router p.len)) o empty_shape

        opened : item_at places (opens_from g.files g.tracked g.question g.plan g.values 0) p.router p.len
            ≡ option_and_then (λ u. option_map (open_with g.files (failures_of g) (destination_of g)
            (room_for g.files g.question.packets.dst p.router p.len) (place p.router p.len) u) (said p)) (unknowns p)
        opened = item_opens g.files g.question (failures_of g) (destination_of g) places
            (unknowns_read_from g.files g.question g.plan g.values 0)
            (bgps_read_from g.files g.tracked g.question g.plan g.values 0) p.router p.len

        told_is : told_at g p ≡ option_and_then (λ t. t) (option_map (option_map as_told) (said p))
        told_is = ap (option_and_then (λ (t : Option BgpShape). t)) (item_map (option_map as_told) places
            (bgps_read_from g.files g.tracked g.question g.plan g.values 0) p.router p.len)

    slots : s.slots ≡ map (shape_slot g.tracked inside.held.items) (enumerate_from 0 inside.rest.slots)
    slots =
        placed
        ∙ sym (along (λ (p : Place). p.len < LENGTHS) (λ p. read_slot (shape_for p)) shape_for
        (λ p. with_route (slot_at g p) (held_at g p)) shape_for one (full_places (length g.files))
        (places_short single_plan (length g.files)) read)
        ∙ sym (joined g.tracked (slot_at g) (held_at g) (full_places (length g.files)) [] inside.held.items in_is.held)
        ∙ ap (λ xs. map (shape_slot g.tracked inside.held.items) (enumerate_from 0 xs)) (sym in_is.slots)

    announced : s.environment ≡ environment_of g.tracked g.files outside.ids.items outside.announced.items
    announced =
        announced_same g.tracked g.files g.plan g.values (start_of g) (ids_from g.files g.values (start_of g))
        outside.announced.items environment (ap (λ (x : ShapeWorld). x.environment.announced) same) out_is.announced
        ∙ ap (λ ids. environment_of g.tracked g.files ids outside.announced.items) (sym out_is.ids)

    pub world_is : IsWorldOf g.tracked g.files (destination_of g) outside.ids.items outside.announced.items
        inside.held.items inside.rest (shape_world_from g.files g.tracked g.question g.plan g.values 0)
    unfolding shape_world_from
    world_is = record { destined = refl; environment = announced; slots = slots }

    -- so it is where these are read elsewhere
    pub world_of : (d : Addr) (ids : List Addr) (said_there held : List (Option ShapeRec)) → d ≡ destination_of g →
        ids ≡ outside.ids.items → said_there ≡ outside.announced.items → held ≡ inside.held.items →
        IsWorldOf g.tracked g.files d ids said_there held inside.rest
        (shape_world_from g.files g.tracked g.question g.plan g.values 0)
    world_of d ids said_there held d_is ids_is said_is held_is = record {
      destined = world_is.destined ∙ sym d_is;
      environment = world_is.environment ∙ (λ i. environment_of g.tracked g.files (sym ids_is i) (sym said_is i));
      slots = world_is.slots
          ∙ ap (λ hs. map (shape_slot g.tracked hs) (enumerate_from 0 inside.rest.slots)) (sym held_is);
    }

-- the world, where packet and failed links are the values'
pub world_made : (g : Given) (made : Rebuilt) (packet : Packet) (failures : Failures) →
    IsMadeOf g.tracked g.files (shape_world_from g.files g.tracked g.question g.plan g.values 0) made →
    packet ≡ packet_from g.question.packets g.values 0 → failures ≡ failures_of g →
    record { failures = failures; packet = packet; tables = made.tables }
    ≡ world_from g.files g.tracked g.question g.plan g.values 0
unfolding shape_world_from
world_made g made packet failures is packets links =
    λ i. record { failures = links i; packet = packets i; tables = is.tables i }
