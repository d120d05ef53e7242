-- Real tables of the shapes of a routing, and what they want of OSPF at its places.
use Rattle.std.proofs.Common.{◌≡◌, ℕ, zero, suc, ◌+◌, ◌*◌, ◌<◌, ◌≤◌, ◌&&◌, ◌||◌, Bool, true, false, not, List, [], ◌∷◌}
use Rattle.std.proofs.Common.{length, get_or, map, drop, Option, Some, None, refl, sym, ap, ap₂, subst, arith}
use Rattle.std.proofs.Common.{◌∙◌}
use Rattle.std.specs.Prelude.{AllPairs, option_and_then, option_map, slice_get, if◌then◌else◌}
use Rattle.std.specs.List.{range_with_len}
use Rattle.std.specs.Option.{option_map_or}
use Rattle.std.proofs.Math.Bool.{and_assoc, and-true}
use Rattle.std.proofs.lemmas.Grind.{common_steps}
use Rattle.std.proofs.lemmas.List.{drop_all, drop_more, length-map}
use Rattle.std.proofs.lemmas.List.FromFn.{length-range_with_len}
use Rattle.std.proofs.lemmas.Option.{same_Some, slice_get-map, slice_get_within}
use Rattle.std.proofs.lemmas.Bool.{and_parts}
use Rattle.mw_text.specs.declared.address.Addr.{Addr}
use Rattle.mw_text.specs.declared.address.Prefix.{Prefix}
use Rattle.mw_text.specs.Address.{prefix_at}
use Rattle.mw_text.proofs.Lists.{all_found}
use Rattle.mw_text.proofs.Found.{mapped, no_value}
use Rattle.ios_ast.specs.declared.file.File.{File}
use Rattle.route_record.specs.declared.Failures.{Failures}
use Rattle.route_record.specs.declared.Packet.{Packet}
use Rattle.route_record.specs.declared.Plan.{Plan}
use Rattle.route_record.specs.declared.Slot.{Slot}
use Rattle.route_record.specs.declared.Tables.{Tables}
use Rattle.route_record.specs.declared.TheConstants.{LENGTHS}
use Rattle.route_record.specs.declared.tracked.Tracked.{Tracked}
use Rattle.route_record.specs.Places.{slot_at}
use Rattle.net_parts.specs.Entries.{entry_with}
use Rattle.net_parts.specs.Stable.{held_ospf}
use Rattle.route_shapes.specs.Bgp.{BgpShape, bgp_shape}
use Rattle.bgp_shapes.specs.Candidates.{ShapeSlot, slot_shape}
use Rattle.plan_places.specs.declared.places.Place.{Place}
use Rattle.plan_places.specs.Places.{IsBefore, has_place, is_at, item_at, place, places_below}
use Rattle.plan_places.specs.Plans.{lens_of}
use Rattle.plan_places.specs.Tables.{all_hold, empty_slot}
use Rattle.question_lang.specs.declared.question.Question.{Question}
use Rattle.slot_places.specs.declared.rooms.Room.{Room}
use Rattle.slot_places.specs.Rooms.{can_be_used, room_among, room_for, rooms_of}
use Rattle.net_interfaces.proofs.Pairs.{first, later}
use Rattle.slot_places.proofs.PlaceLaws.{in-has, in-places}
use Rattle.slot_places.proofs.RoomSteps.{room_there}
use Rattle.term_store.specs.declared.NodeId.{NodeId}
use Rattle.term_store.specs.Terms.{Reading, Store, at}
use Rattle.sym_policy.specs.Held.{bgp_of, failures_of}
use Rattle.sym_policy.specs.Records.{address_of}
use Rattle.sym_rib.specs.declared.slots.SymSlot.{SymSlot}
use Rattle.sym_rib.specs.declared.slots.SymTables.{SymTables}
use Rattle.sym_rib.specs.Sources.{entry_from}
use Rattle.sym_rib.specs.Worlds.{StandForTables}
use Rattle.sym_rib.proofs.TableEntries.{entry_same}
use Rattle.world_variables.specs.declared.unknowns.Unknown.{Unknown}
use Rattle.world_variables.specs.Slots.{has_dynamic, is_wanted, same_ospf}
use Rattle.world_variables.proofs.Stability.{same_ospf-is}
use Rattle.world_variables.specs.Symbols.{open_of}
use Rattle.world_variables.specs.Worlds.{opens_from as unknowns_read_from, places_in}
use Rattle.ospf_equations.specs.Equations.{StandFor}
use Rattle.ospf_equations.specs.Reached.{AreHeld}
use Rattle.shape_worlds.specs.Worlds.{ShapeWorld, slots_for}
use Rattle.bgp_equations.specs.Equations.{slot_read}
use Rattle.bgp_worlds.specs.Opens.{OpenSlot, empty_shape, is_igp_wanted, open_shape, shape_slot_among, shape_slot_of}
use Rattle.bgp_worlds.proofs.BgpSound.{open_there, slot_here}
use Rattle.bgp_worlds.proofs.Placed.{made, not_made}
use Rattle.bgp_worlds.proofs.SameShapes.{learnt_shape}
use Rattle.routing_worlds.specs.Worlds.{announced_by, bgps_read_from, dynamic_of, failures_read_from, open_with, opens_from, opens_with, shape_world_from}
use Rattle.world_variables.specs.Packets.{packet_from}
use Rattle.routing_worlds.proofs.MadeAgain.{not_back}
use Rattle.routing_encoder.specs.declared.frame.Frame.{Frame}
use Rattle.routing_encoder.specs.declared.opening.OpenRouting.{OpenRouting}
use Rattle.routing_encoder.specs.Frames.{IsFrame}
use Rattle.routing_encoder.specs.Opened.{ReadsAs, StandsIn}
use Rattle.routing_encoder.specs.Shapes.{ReadAsShapes}
use Rattle.routing_encoder.specs.Wanted.{HasShapes, IsOpenAt, TellsWanted, are_wanted, is_wanted_place}
use Rattle.routing_encoder.proofs.Halves.{here_at, placed_has, thing_there}
use Rattle.routing_encoder.proofs.LoopSteps.{open_below, place_short}
use Rattle.sym_rib.proofs.OneEach.{items_at}
use Rattle.routing_encoder.proofs.OpeningSteps.{places_are}
use Rattle.routing_encoder.proofs.WorldSteps.{stands_grown, stands_ready}

-- ---- a slot without room for a route of OSPF

-- the bit of its entry is that of the entry by the shape of its BGP route
pub closed_bit : (tracked : Tracked) (files : List File) (failures : Failures) (d : Addr) (p : Place) (held : Slot)
    (bgp : Option BgpShape) (own : Bool) → held.ospf ≡ None → option_map (bgp_shape tracked) held.bgp ≡ bgp →
    own ≡ false →
    has_dynamic (option_and_then (λ file. entry_with files failures p.router file (prefix_at d p.len) held own)
    (slice_get files p.router)) ≡ dynamic_of files failures d p bgp
closed_bit tracked files failures d p held bgp own none shape is =
    let learnt = learnt_shape tracked held.bgp ∙ ap (option_map (λ (s : BgpShape). s.from)) shape in
    (λ i. has_dynamic (option_and_then (λ (file : File).
    sym (entry_same files failures p.router file (prefix_at d p.len) held own) i) (slice_get files p.router)))
    ∙ (λ i. has_dynamic (option_and_then (λ (file : File). entry_from files failures p.router file (prefix_at d p.len)
    (learnt i) (none i) (is i)) (slice_get files p.router)))

-- ---- what is open at a place, by its number

open_bgp : (files : List File) (failures : Failures) (d : Addr) (room : Option Room) (p : Place) (u : Unknown)
    (b : Option BgpShape) → (open_with files failures d room p u b).bgp ≡ b
open_bgp files failures d None p u b = refl
open_bgp files failures d (Some room) p u b = refl

-- it is what follows from what is open of OSPF there and from its BGP route
open_nth : (files : List File) (question : Question) (failures : Failures) (d : Addr) (ps : List Place)
    (us : List Unknown) (bs : List (Option BgpShape)) (i : ℕ) (p : Place) (u : Unknown) (o : OpenSlot) →
    slice_get ps i ≡ Some p → slice_get us i ≡ Some u →
    slice_get (opens_with files question failures d ps us bs) i ≡ Some o →
    open_with files failures d (room_for files question.packets.dst p.router p.len) p u o.bgp ≡ o
unfolding opens_with
open_nth files question failures d [] us bs i p u o there part here = absurd cc
open_nth files question failures d (q ∷ ps) [] bs i p u o there part here = absurd cc
open_nth files question failures d (q ∷ ps) (v ∷ us) [] i p u o there part here = absurd cc
open_nth files question failures d (q ∷ ps) (v ∷ us) (b ∷ bs) zero p u o there part here =
    let room = room_for files question.packets.dst q.router q.len in
    let is = same_Some (open_with files failures d room q v b) o here in
    let bgp : o.bgp ≡ b = ap (λ (x : OpenSlot). x.bgp) (sym is) ∙ open_bgp files failures d room q v b in
    let at_place = sym (same_Some q p there) in
    let part_there = sym (same_Some v u part) in
    (λ k. open_with files failures d (room_for files question.packets.dst (at_place k).router (at_place k).len)
    (at_place k) (part_there k) (bgp k)) ∙ is
open_nth files question failures d (q ∷ ps) (v ∷ us) (b ∷ bs) (suc i) p u o there part here =
    open_nth files question failures d ps us bs i p u o there part here

-- as many things are open as there are places
open_many : (files : List File) (question : Question) (failures : Failures) (d : Addr) (ps : List Place)
    (us : List Unknown) (bs : List (Option BgpShape)) → length us ≡ length ps → length bs ≡ length ps →
    length (opens_with files question failures d ps us bs) ≡ length ps
unfolding opens_with
open_many files question failures d [] us bs parts routes = refl
open_many files question failures d (p ∷ ps) [] bs parts routes = absurd (omega (arith, parts))
open_many files question failures d (p ∷ ps) (u ∷ us) [] parts routes = absurd (omega (arith, routes))
open_many files question failures d (p ∷ ps) (u ∷ us) (b ∷ bs) parts routes =
    let rest = open_many files question failures d ps us bs (omega (arith, parts)) (omega (arith, routes)) in
    omega (arith, rest)

-- a thing stands at the place of its number, where the places ascend
item_nth : {X : Type 0} (ps : List Place) (xs : List X) (i : ℕ) (p : Place) (x : X) → slice_get ps i ≡ Some p →
    slice_get xs i ≡ Some x → AllPairs IsBefore ps → item_at ps xs p.router p.len ≡ Some x
unfolding item_at
item_nth [] xs i p x there here ascend = absurd cc
item_nth (q ∷ ps) [] i p x there here ascend = absurd cc
item_nth {X} (q ∷ ps) (y ∷ xs) zero p x there here ascend =
    let is : is_at p.router p.len q ≡ true =
    ap (is_at p.router p.len) (same_Some q p there) ∙ here_at p in
    ap (λ b. if b then Some y else item_at ps xs p.router p.len) is ∙ here
item_nth {X} (q ∷ ps) (y ∷ xs) (suc i) p x there here ascend =
    ap (λ b. if b then Some y else item_at ps xs p.router p.len)
    (not_back q p (all_found (IsBefore q) ps i p (first IsBefore q ps ascend) there))
    ∙ item_nth ps xs i p x there here (later IsBefore q ps ascend)

-- ---- the tables

none_off : {X : Type 0} (ps : List Place) (xs : List X) (router len : ℕ) → length xs ≡ length ps →
    item_at ps xs router len ≡ None → has_place ps router len ≡ false
none_off {X} ps xs router len long none = by (has_place ps router len) refl where
  by : (b : Bool) → has_place ps router len ≡ b → b ≡ false
  by true is =
      let found = thing_there ps xs router len long is in
      let some : None ≡ Some found.0 = sym none ∙ found.1 in absurd cc
  by false is = refl

-- the slots of tables have the shapes of a world's
shapes_there : (tracked : Tracked) (real : Tables) (s : ShapeWorld) (router len : ℕ) → HasShapes tracked real s →
    option_map (slot_shape tracked) (slot_at real router len) ≡ slots_for s len router
shapes_there tracked real s router len shapes =
    sym (slice_get-map (slot_shape tracked) real.slots (LENGTHS * router + len))
    ∙ ap (λ xs. slice_get xs (LENGTHS * router + len)) shapes

empty_is : (tracked : Tracked) (slot : Slot) → slot_shape tracked slot ≡ empty_shape → slot ≡ empty_slot
empty_is tracked slot is =
    let ospf = ap (λ (x : ShapeSlot). x.ospf) is in
    let bgp = no_value (bgp_shape tracked) slot.bgp (ap (λ (x : ShapeSlot). x.bgp) is) in
    let rib = ap (λ (x : ShapeSlot). x.rib) is in
    λ i. record { ospf = ospf i; bgp = bgp i; rib = rib i }

module _ (w : Reading) (files : List File) (tracked : Tracked) (question : Question) (plan : Plan) (from : ℕ)
    (real : Tables) (shapes : HasShapes tracked real (shape_world_from files tracked question plan w.variable from)) where
  abbrev world : ShapeWorld
  world = shape_world_from files tracked question plan w.variable from

  abbrev opens : List OpenSlot
  opens = opens_from files tracked question plan w.variable from

  abbrev among : ℕ → ℕ → ShapeSlot
  among router len =
      shape_slot_among files question.packets.dst (failures_read_from files question w.variable from)
      (packet_from question.packets w.variable from).dst (places_in files plan) opens router len

  world_slot : (router len : ℕ) → router < length files → len < LENGTHS →
      slots_for world len router ≡ Some (among router len)
  unfolding shape_world_from
  world_slot router len below short =
      slot_here files question.packets.dst plan (packet_from question.packets w.variable from)
      (failures_read_from files question w.variable from) opens
      (announced_by files tracked question plan w.variable from) router len below short

  world_long : length world.slots ≡ LENGTHS * length files
  unfolding shape_world_from
  world_long =
      length-map (range_with_len 0 (LENGTHS * length files)) _ ∙ length-range_with_len 0 (LENGTHS * length files)

  -- symbolic slots that read as those of the world stand for those of the tables
  pub stand_read : (slots : List SymSlot) → ReadAsShapes files tracked question plan from w slots →
      length slots ≡ length (places_in files plan) →
      StandForTables w tracked (lens_of plan) (length files) slots real
  stand_read slots read long = record {
    long = sym (length-map real.slots (slot_shape tracked)) ∙ ap length shapes ∙ world_long;
    each = λ router len s slot below short there is.
        let has = placed_has (places_in files plan) slots router len s there in
        let same : slot_read w s ≡ slot_shape tracked slot =
        same_Some (slot_read w s) (slot_shape tracked slot) (ap (option_map (slot_read w)) (sym there)
        ∙ read router len below short has ∙ sym (shapes_there tracked real world router len shapes)
        ∙ ap (option_map (slot_shape tracked)) is) in
        record {
          ospf = ap (λ (x : ShapeSlot). x.ospf) same;
          bgp = ap (λ (x : ShapeSlot). x.bgp) same;
          rib = ap (λ (x : ShapeSlot). x.rib) same;
        };
    off = λ router len slot below short none is.
        let has = none_off (places_in files plan) slots router len long none in
        let f = shape_slot_of files question.packets.dst (failures_read_from files question w.variable from)
        (packet_from question.packets w.variable from).dst (place router len) in
        empty_is tracked slot (same_Some (slot_shape tracked slot) empty_shape
        (ap (option_map (slot_shape tracked)) (sym is) ∙ shapes_there tracked real world router len shapes
        ∙ world_slot router len below short
        ∙ ap (λ o. Some (option_map_or f o empty_shape)) (not_made (places_in files plan) opens router len has)));
  }

  -- the slot at the place of what is open has its shape
  held_there : (p : Place) (o : OpenSlot) → p.router < length files → p.len < LENGTHS →
      item_at (places_in files plan) opens p.router p.len ≡ Some o →
      can_be_used files question.packets.dst p.router p.len ≡ true →
      (slot : Slot) × (slot_at real p.router p.len ≡ Some slot)
      × (slot_shape tracked slot ≡ open_shape files (failures_read_from files question w.variable from)
      (packet_from question.packets w.variable from).dst p.router p.len o)
  held_there p o below short there used =
      mapped (slot_shape tracked) (slot_at real p.router p.len) (open_shape files
      (failures_read_from files question w.variable from) (packet_from question.packets w.variable from).dst p.router
      p.len o) (shapes_there tracked real world p.router p.len shapes ∙ world_slot p.router p.len below short
      ∙ ap Some (open_there files question.packets.dst plan (packet_from question.packets w.variable from)
      (failures_read_from files question w.variable from) opens
      (announced_by files tracked question plan w.variable from) p.router p.len o used there))

  -- so they do as tables of the frame
  pub tables_stand : (slots : List SymSlot) (tables : SymTables) →
      ReadAsShapes files tracked question plan from w slots → length slots ≡ length (places_in files plan) →
      tables.lens.now ≡ lens_of plan → tables.routers ≡ length files → tables.slots.now ≡ slots →
      StandFor w tracked tables real
  tables_stand slots tables read long lens routers same =
      subst (λ (ls : List ℕ). StandForTables w tracked ls tables.routers tables.slots.now real) (sym lens)
      (subst (λ (n : ℕ). StandForTables w tracked (lens_of plan) n tables.slots.now real) (sym routers)
      (subst (λ (ss : List SymSlot). StandForTables w tracked (lens_of plan) (length files) ss real) (sym same)
      (stand_read slots read long)))

  -- a symbolic slot stands there for it
  stands_open : (slots : List SymSlot) (number : ℕ) (p : Place) (o : OpenSlot) (tables : SymTables) →
      ReadAsShapes files tracked question plan from w slots → length slots ≡ length (places_in files plan) →
      tables.lens.now ≡ lens_of plan → tables.routers ≡ length files → tables.slots.now ≡ slots → p.len < LENGTHS →
      AllPairs IsBefore (places_in files plan) → slice_get (places_in files plan) number ≡ Some p →
      slice_get opens number ≡ Some o → can_be_used files question.packets.dst p.router p.len ≡ true →
      StandFor w tracked tables real × ((slot : Slot) × IsOpenAt w tracked tables real p o slot)
  stands_open slots number p o tables read long lens routers same short ascend there here used =
      let ps = places_in files plan in
      let item = item_nth ps opens number p o there here ascend in
      let has = placed_has ps opens p.router p.len o item in
      let below = (in-places (lens_of plan) (length files) (place p.router p.len) (in-has ps p.router p.len has)).0 in
      let held = held_there p o below short item used in
      let found = thing_there ps slots p.router p.len long has in
      let stand = stand_read slots read long in (
        tables_stand slots tables read long lens routers same,
        (
          held.0,
          record {
            sym = found.0;
            there = (λ i. item_at (places_below (lens i) (routers i)) (same i) p.router p.len) ∙ found.1;
            stands = stand.each p.router p.len found.0 held.0 below short found.1 held.1;
            is = held.1;
            ospf = ap (λ (x : ShapeSlot). x.ospf) held.2;
            bgp = ap (λ (x : ShapeSlot). x.bgp) held.2;
          },
        ),
      )

-- a node that tells what is wanted at a place, of what is open there as it reads, tells it of the world
wanted_there : (w : Reading) (files : List File) (tracked : Tracked) (question : Question) (plan : Plan) (from : ℕ)
    (t : Store) (made : OpenRouting) (tables : SymTables) (slots : List SymSlot) (number : ℕ) (real : Tables)
    (node : NodeId) (u : Unknown) (p : Place) (o : OpenSlot) → StandsIn files tracked question plan t made →
    ReadsAs files tracked question plan from w made → ReadAsShapes files tracked question plan from w slots →
    HasShapes tracked real (shape_world_from files tracked question plan w.variable from) →
    length slots ≡ length made.frame.places → tables.lens.now ≡ made.frame.lens.items →
    tables.routers ≡ length files → tables.slots.now ≡ slots →
    slice_get made.frame.places number ≡ Some p → slice_get (map (open_of w) made.parts) number ≡ Some u →
    slice_get (opens_from files tracked question plan w.variable from) number ≡ Some o →
    can_be_used files question.packets.dst p.router p.len ≡ true →
    TellsWanted w tracked files (failures_of w made.net) (address_of w made.packet.dst) tables p
    (open_with files (failures_of w made.net) (address_of w made.packet.dst)
    (room_for files question.packets.dst p.router p.len) p u o.bgp) node →
    at w node ≡ is_wanted_place files question.packets.dst
    (shape_world_from files tracked question plan w.variable from) real p o
unfolding shape_world_from
wanted_there w files tracked question plan from t made tables slots number real node u p o stands read shapes has long
    lens routers same there part here used tells =
    tells' real found.1.0 found.0 found.1.1
    ∙ (λ i. option_map_or (is_wanted files (read.failures i) (dst i) real p.router p.len o.unknown found.1.0)
    (slice_get files p.router) false)
    ∙ ap (λ x. option_map_or (λ file. option_map_or (is_igp_wanted files s real p o.unknown file) x false)
    (slice_get files p.router) false) (sym found.1.1.is)
    ∙ ap (λ b. not b || rest) (sym used)
  where
    s : ShapeWorld
    s = shape_world_from files tracked question plan w.variable from

    rest : Bool
    rest = option_map_or (λ file. option_map_or (is_igp_wanted files s real p o.unknown file)
        (slot_at real p.router p.len) false) (slice_get files p.router) false

    places : made.frame.places ≡ places_in files plan
    places = places_are files tracked plan made.frame stands.frame

    dst : address_of w made.packet.dst ≡ (packet_from question.packets w.variable from).dst
    dst = ap (λ (x : Packet). x.dst) read.packet

    there' : slice_get (places_in files plan) number ≡ Some p
    there' = ap (λ ps. slice_get ps number) (sym places) ∙ there

    found : StandFor w tracked tables real × ((slot : Slot) × IsOpenAt w tracked tables real p o slot)
    found = stands_open w files tracked question plan from real has slots number p o tables shapes
        (long ∙ ap length places) (lens ∙ stands.frame.lens) routers same
        (place_short made.frame.places number p stands.frame.short there)
        (subst (AllPairs IsBefore) places stands.frame.ascend) there' here used

    room : Option Room
    room = room_for files question.packets.dst p.router p.len

    open_is : open_with files (failures_of w made.net) (address_of w made.packet.dst) room p u o.bgp ≡ o
    open_is =
        (λ i. open_with files (read.failures i) (dst i) room p u o.bgp)
        ∙ open_nth files question (failures_read_from files question w.variable from)
        (packet_from question.packets w.variable from).dst (places_in files plan)
        (unknowns_read_from files question plan w.variable from) (bgps_read_from files tracked question plan w.variable from)
        number p u o there' (ap (λ us. slice_get us number) (sym read.parts) ∙ part) here

    tells' : TellsWanted w tracked files (failures_of w made.net) (address_of w made.packet.dst) tables p o node
    tells' = subst (λ x. TellsWanted w tracked files (failures_of w made.net) (address_of w made.packet.dst) tables p x
        node) open_is tells

-- ---- the place that is read

-- it is the one of that number
pub place_is : (places read : List Place) (number : ℕ) (q p : Place) → read ≡ places → slice_get read number ≡ Some q →
    slice_get places number ≡ Some p → q ≡ p
place_is places read number q p same is there =
    same_Some q p (sym is ∙ ap (λ ps. slice_get ps number) same ∙ there)

-- nothing is asked where nothing can stand
pub unused_is : (files : List File) (read destinations : Prefix) (s : ShapeWorld) (real : Tables) (q p : Place)
    (o : OpenSlot) → read ≡ destinations → q ≡ p → can_be_used files read q.router q.len ≡ false →
    true ≡ is_wanted_place files destinations s real p o
unused_is files read destinations s real q p o same place unused =
    let none : can_be_used files destinations p.router p.len ≡ false =
    (λ i. can_be_used files (sym same i) (sym place i).router (sym place i).len) ∙ unused in
    ap (λ b. not b || option_map_or (λ file. option_map_or (is_igp_wanted files s real p o.unknown file)
    (slot_at real p.router p.len) false) (slice_get files p.router) false) (sym none)

-- the room that is found is the one of the router
pub room_is : (files read : List File) (tracked : Tracked) (plan : Plan) (frame : Frame) (destinations : Prefix)
    (rooms : List (Option Room)) (q : Place) (room : Option Room) → IsFrame files tracked plan frame →
    frame.destinations ≡ destinations → read ≡ files → rooms ≡ frame.rooms → q.len < LENGTHS →
    room ≡ room_among read rooms q.router q.len → room ≡ room_for files destinations q.router q.len
room_is files read tracked plan frame destinations rooms q room is same all there short found =
    found
    ∙ (λ i. room_among (all i) ((there ∙ is.rooms ∙ ap (rooms_of files) same) i) q.router q.len)
    ∙ room_there files destinations q.router q.len short

pub wanted_is : (w : Reading) (files : List File) (tracked : Tracked) (question : Question) (plan : Plan) (from : ℕ)
    (t : Store) (made : OpenRouting) (tables : SymTables) (slots : List SymSlot) (number : ℕ) (real : Tables)
    (node : NodeId) (u : Unknown) (q p : Place) (o : OpenSlot) → StandsIn files tracked question plan t made →
    ReadsAs files tracked question plan from w made → ReadAsShapes files tracked question plan from w slots →
    HasShapes tracked real (shape_world_from files tracked question plan w.variable from) →
    length slots ≡ length made.frame.places → tables.lens.now ≡ made.frame.lens.items →
    tables.routers ≡ length files → tables.slots.now ≡ slots → q ≡ p →
    slice_get made.frame.places number ≡ Some p → slice_get (map (open_of w) made.parts) number ≡ Some u →
    slice_get (opens_from files tracked question plan w.variable from) number ≡ Some o →
    can_be_used files made.frame.destinations q.router q.len ≡ true →
    TellsWanted w tracked files (failures_of w made.net) (address_of w made.packet.dst) tables q
    (open_with files (failures_of w made.net) (address_of w made.packet.dst)
    (room_for files question.packets.dst q.router q.len) q u o.bgp) node →
    at w node ≡ is_wanted_place files question.packets.dst
    (shape_world_from files tracked question plan w.variable from) real p o
wanted_is w files tracked question plan from t made tables slots number real node u q p o stands read shapes has long lens
    routers same place there part here used tells =
    wanted_there w files tracked question plan from t made tables slots number real node u p o stands read shapes has
    long lens routers same there part here
    ((λ i. can_be_used files (sym stands.destinations i) (sym place i).router (sym place i).len) ∙ used)
    (subst (λ (x : Place). TellsWanted w tracked files (failures_of w made.net) (address_of w made.packet.dst) tables x
    (open_with files (failures_of w made.net) (address_of w made.packet.dst)
    (room_for files question.packets.dst x.router x.len) x u o.bgp) node) place tells)

-- ---- all places

-- a routing has as much open as its frame has places
pub opens_many : (w : Reading) (files : List File) (tracked : Tracked) (question : Question) (plan : Plan) (from : ℕ)
    (t : Store) (made : OpenRouting) → StandsIn files tracked question plan t made →
    ReadsAs files tracked question plan from w made →
    length (opens_from files tracked question plan w.variable from) ≡ length made.frame.places
opens_many w files tracked question plan from t made stands read =
    let places = ap length (places_are files tracked plan made.frame stands.frame) in
    let parts = sym (ap length read.parts) ∙ length-map made.parts (open_of w) ∙ stands.parts_long ∙ places in
    let routes = sym (ap length read.routes) ∙ length-map made.routes (bgp_of w) ∙ stands.routes_long ∙ places in
    open_many files question (failures_read_from files question w.variable from)
    (packet_from question.packets w.variable from).dst (places_in files plan)
    (unknowns_read_from files question plan w.variable from) (bgps_read_from files tracked question plan w.variable from)
    parts routes ∙ sym places

pub wanted_next : {U : Type 0} (test : Place → U → Bool) (ps : List Place) (us : List U) (i : ℕ) (d : Place) (e : U) →
    i < length ps → i < length us → all_hold test (drop i ps) (drop i us)
    ≡ (test (get_or ps i d) (get_or us i e) && all_hold test (drop (i + 1) ps) (drop (i + 1) us))
unfolding all_hold
wanted_next test ps us i d e below within = ap₂ (all_hold test) (drop_more ps i d below) (drop_more us i e within)

pub wanted_none : {U : Type 0} (test : Place → U → Bool) (ps : List Place) (us : List U) (i : ℕ) → length ps ≤ i →
    length us ≤ i → all_hold test (drop i ps) (drop i us) ≡ true
unfolding all_hold
wanted_none test ps us i past beyond = ap₂ (all_hold test) (drop_all i ps past) (drop_all i us beyond)

pub ruleset place_steps = (common_steps, stands_ready, open_below, place_short, items_at)

pub ruleset wanted_steps = (common_steps, stands_grown, and_assoc, and-true)

-- ---- what is wanted of OSPF leaves each router the route that it holds

module _ (w : Reading) (files : List File) (tracked : Tracked) (question : Question) (plan : Plan) (from : ℕ)
    (real : Tables) (shapes : HasShapes tracked real (shape_world_from files tracked question plan w.variable from)) where
  abbrev the_world : ShapeWorld
  the_world = shape_world_from files tracked question plan w.variable from

  abbrev the_opens : List OpenSlot
  the_opens = opens_from files tracked question plan w.variable from

  abbrev the_failures : Failures
  the_failures = failures_read_from files question w.variable from

  abbrev the_dst : Addr
  the_dst = (packet_from question.packets w.variable from).dst

  pub are_held : (len : ℕ) → len < LENGTHS →
      all_hold (is_wanted_place files question.packets.dst
      (shape_world_from files tracked question plan w.variable from) real) (places_in files plan)
      (opens_from files tracked question plan w.variable from) ≡ true →
      AreHeld files (failures_read_from files question w.variable from) real
      (prefix_at (packet_from question.packets w.variable from).dst len)
  unfolding shape_world_from
  are_held len short all router file slot h found here holds =
      by_item (item_at (places_in files plan) the_opens router len) refl
    where
      below : router < length files
      below = slice_get_within files router file found

      shape_of : OpenSlot → ShapeSlot
      shape_of = shape_slot_of files question.packets.dst the_failures the_dst (place router len)

      shape : slot_shape tracked slot
          ≡ option_map_or (shape_slot_of files question.packets.dst the_failures the_dst (place router len))
          (item_at (places_in files plan) the_opens router len) empty_shape
      shape = same_Some _ _ (ap (option_map (slot_shape tracked)) (sym here)
          ∙ shapes_there tracked real the_world router len shapes
          ∙ world_slot w files tracked question plan from real shapes router len below short)

      route : slot.ospf ≡ (option_map_or (shape_slot_of files question.packets.dst the_failures the_dst
          (place router len)) (item_at (places_in files plan) the_opens router len) empty_shape).ospf
      route = ap (λ (x : ShapeSlot). x.ospf) shape

      asked : (o : OpenSlot) → can_be_used files question.packets.dst router len ≡ true →
          is_wanted_place files question.packets.dst the_world real (place router len) o ≡ true →
          o.unknown.ospf ≡ held_ospf files the_failures real router file (prefix_at the_dst len)
      asked o used passes =
          let igp : is_igp_wanted files the_world real (place router len) o.unknown file slot ≡ true =
          sym (ap (λ b. not b || option_map_or (λ (f : File).
          option_map_or (is_igp_wanted files the_world real (place router len) o.unknown f) (slot_at real router len)
          false) (slice_get files router) false) used
          ∙ ap (λ x. option_map_or (λ (f : File).
          option_map_or (is_igp_wanted files the_world real (place router len) o.unknown f) (slot_at real router len)
          false) x false) found
          ∙ ap (λ x. option_map_or (is_igp_wanted files the_world real (place router len) o.unknown file) x false) here)
          ∙ passes in
          same_ospf-is o.unknown.ospf _ (and_parts (same_ospf o.unknown.ospf
          (held_ospf files the_failures real router file (prefix_at the_dst len))) _ igp).0

      by_use : (o : OpenSlot) → item_at (places_in files plan) the_opens router len ≡ Some o → (b : Bool) →
          can_be_used files question.packets.dst router len ≡ b →
          held_ospf files the_failures real router file (prefix_at the_dst len) ≡ Some h
      by_use o is true used =
          let made_there = made (is_wanted_place files question.packets.dst the_world real) (places_in files plan)
          the_opens router len all (placed_has (places_in files plan) the_opens router len o is) in
          let same : made_there.item ≡ o = same_Some _ _ (sym made_there.is ∙ is) in
          sym (asked o used (subst (λ x. is_wanted_place files question.packets.dst the_world real (place router len) x
          ≡ true) same made_there.passes))
          ∙ sym (route
          ∙ ap (λ x. (option_map_or (shape_slot_of files question.packets.dst the_failures the_dst (place router len)) x
          empty_shape).ospf) is
          ∙ ap (λ b. (if b then open_shape files the_failures the_dst router len o else empty_shape).ospf) used)
          ∙ holds
      by_use o is false unused =
          let none : slot.ospf ≡ None =
          route
          ∙ ap (λ x. (option_map_or (shape_slot_of files question.packets.dst the_failures the_dst (place router len)) x
          empty_shape).ospf) is
          ∙ ap (λ b. (if b then open_shape files the_failures the_dst router len o else empty_shape).ospf) unused in
          let both : None ≡ Some h = sym none ∙ holds in absurd cc

      by_item : (o : Option OpenSlot) → item_at (places_in files plan) the_opens router len ≡ o →
          held_ospf files the_failures real router file (prefix_at the_dst len) ≡ Some h
      by_item None is =
          let none : slot.ospf ≡ None =
          route
          ∙ ap (λ x. (option_map_or (shape_slot_of files question.packets.dst the_failures the_dst (place router len)) x
          empty_shape).ospf) is in
          let both : None ≡ Some h = sym none ∙ holds in absurd cc
      by_item (Some o) is = by_use o is (can_be_used files question.packets.dst router len) refl

-- in the failed links and for the prefix that the routing of terms reads as
pub held_as_read : (w : Reading) (files : List File) (tracked : Tracked) (question : Question) (plan : Plan) (from : ℕ)
    (t : Store) (made : OpenRouting) (real : Tables) (len : ℕ) → len < LENGTHS →
    StandsIn files tracked question plan t made → ReadsAs files tracked question plan from w made →
    HasShapes tracked real (shape_world_from files tracked question plan w.variable from) →
    are_wanted files question.packets.dst (shape_world_from files tracked question plan w.variable from) real
    made.frame.places (opens_from files tracked question plan w.variable from) ≡ true →
    AreHeld files (failures_of w made.net) real (prefix_at (address_of w made.packet.dst) len)
held_as_read w files tracked question plan from t made real len short stands read has all =
    subst (λ f. AreHeld files f real (prefix_at (address_of w made.packet.dst) len)) (sym read.failures)
    (subst (λ d. AreHeld files (failures_read_from files question w.variable from) real (prefix_at d len))
    (sym (ap (λ (x : Packet). x.dst) read.packet))
    (are_held w files tracked question plan from real has len short
    (ap (λ ps. are_wanted files question.packets.dst (shape_world_from files tracked question plan w.variable from) real ps
    (opens_from files tracked question plan w.variable from))
    (sym (places_are files tracked plan made.frame stands.frame)) ∙ all)))
