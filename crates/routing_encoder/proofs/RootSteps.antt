-- The root of a formula: where interior distances are needed, and which world its symbolic world is.
use Rattle.std.proofs.Common.{◌≡◌, ℕ, ◌+◌, ◌<◌, ◌≤◌, ◌*◌, Bool, true, false, List, [], ◌∷◌, length, map}
use Rattle.std.proofs.Common.{not, Option, Some, None, inl, inr, refl, sym, ap, subst, arith, is_some, ◌∙◌}
use Rattle.std.specs.Prelude.{All, AllPairs, option_and_then, option_map, slice_get, if◌then◌else◌}
use Rattle.std.specs.List.{list_any}
use Rattle.std.specs.Option.{option_map_or}
use Rattle.std.proofs.lemmas.List.Elements.{All-cons, All-nil}
use Rattle.std.proofs.lemmas.Map.Keys.{any_passes_from_place}
use Rattle.std.proofs.lemmas.Option.{same_Some}
use Rattle.mw_text.specs.Members.{In}
use Rattle.ios_ast.specs.declared.bgp.Bgp.{Bgp}
use Rattle.ios_ast.specs.declared.file.File.{File}
use Rattle.mw_text.specs.declared.address.Addr.{Addr}
use Rattle.route_record.specs.declared.Failures.{Failures}
use Rattle.route_record.specs.declared.Packet.{Packet}
use Rattle.route_record.specs.declared.Plan.{Plan}
use Rattle.route_record.specs.declared.Tables.{Tables}
use Rattle.route_record.specs.declared.TheConstants.{LENGTHS}
use Rattle.route_record.specs.declared.World.{World}
use Rattle.route_record.specs.declared.tracked.Tracked.{Tracked}
use Rattle.net_parts.specs.Ospf.{advertised}
use Rattle.net_parts.specs.Sessions as sessions
use Rattle.net_parts.specs.Sessions.{is_outside}
use Rattle.net_parts.specs.declared.sessions.SessionEnd.{SessionEnd}
use Rattle.route_shapes.specs.Bgp.{BgpShape}
use Rattle.bgp_shapes.specs.Candidates.{ShapeSlot}
use Rattle.plan_places.specs.declared.places.Place.{Place}
use Rattle.plan_places.specs.Places.{IsBefore, is_at, item_at, place}
use Rattle.plan_places.specs.Plans.{lens_of}
use Rattle.question_lang.specs.declared.question.Question.{Question}
use Rattle.slot_places.specs.Rooms.{can_be_used, room_for}
use Rattle.slot_places.proofs.PlaceLaws.{has-in, in-lens, in-places}
use Rattle.slot_places.specs.declared.rooms.Room.{Room}
use Rattle.net_interfaces.proofs.Pairs.{first, later}
use Rattle.slot_places.proofs.Supports.{all_in}
use Rattle.term_store.specs.Terms.{Reading, Store, size}
use Rattle.sym_ospf.specs.Rows.{HasDistances, net_end}
use Rattle.sym_policy.specs.declared.records.SymNet.{SymNet}
use Rattle.sym_policy.specs.declared.records.SymPacket.{SymPacket}
use Rattle.sym_policy.specs.Records.{packet_end}
use Rattle.sym_policy.specs.Held.{bgp_at, bgp_of, failures_of, internal_route}
use Rattle.sym_policy.specs.Packets.{packet_of}
use Rattle.sym_rib.specs.declared.slots.SymSlot.{SymSlot}
use Rattle.sym_rib.specs.Worlds.{StandForTables, slots_end, tables_of}
use Rattle.sym_walk.specs.declared.breaks.SymWorld.{SymWorld}
use Rattle.sym_walk.specs.Distances.{DistancesIfNeeded, DistancesWhereNeeded}
use Rattle.sym_walk.specs.Whole.{HasSlots, whole_end, whole_of}
use Rattle.igp_variables.specs.Rows.{HasRows, distances, runs_bgp}
use Rattle.igp_variables.proofs.Placed.{rows_are}
use Rattle.igp_variables.proofs.Ends.{no_inner}
use Rattle.world_variables.specs.declared.unknowns.Unknown.{Unknown}
use Rattle.world_variables.specs.Worlds.{opens_from as unknowns_read_from, places_in}
use Rattle.world_variables.specs.Packets.{packet_from}
use Rattle.bgp_equations.specs.declared.environment.SymEnv.{SymEnv}
use Rattle.bgp_equations.specs.Environments.{FitsNet, environment_read}
use Rattle.bgp_equations.specs.Equations.{DistancesForSessions, RowsForSessions, has_inner, slot_read}
use Rattle.bgp_variables.specs.declared.rooms.BgpRoom.{BgpRoom}
use Rattle.bgp_variables.specs.Brought.{brings_bgp}
use Rattle.bgp_variables.specs.Rooms.{bgp_room, bgp_rooms, held_room}
use Rattle.bgp_variables.specs.Shapes.{bgp_from, bgp_width, bgps_from}
use Rattle.bgp_worlds.specs.Opens.{OpenSlot, empty_shape, open_shape, shape_slot_among, shape_slot_of}
use Rattle.bgp_worlds.proofs.BgpSound.{slot_here}
use Rattle.routing_worlds.specs.Worlds.{announced_by, bgps_start, failures_read_from}
use Rattle.routing_worlds.specs.Worlds.{open_with, opens_from, opens_with, shape_world_from}
use Rattle.routing_worlds.proofs.MadeAgain.{not_back}
use Rattle.routing_encoder.specs.declared.opening.OpenRouting.{OpenRouting}
use Rattle.routing_encoder.specs.Opened.{ReadsAs, StandsIn}
use Rattle.routing_encoder.specs.Shapes.{ReadAsShapes}
use Rattle.routing_encoder.specs.Encoded.{HasEnvironment, SayDistances, StandsForWorld}
use Rattle.routing_encoder.proofs.Halves.{here_at}
use Rattle.routing_encoder.proofs.OpeningSteps.{places_are}

-- ---- sessions and distances

-- a session between two routers of the files wants a router that runs BGP
inner_runs : (files : List File) → has_inner files ≡ true → runs_bgp files ≡ true
inner_runs files inner = by (runs_bgp files) refl where
  by : (b : Bool) → runs_bgp files ≡ b → b ≡ true
  by true is = refl
  by false is = sym (ap (list_any (λ (end : SessionEnd). not (is_outside end.far))) (no_inner files is)) ∙ inner

pub rows_there : (files : List File) (tracked : Tracked) (question : Question) (plan : Plan) (t : Store)
    (made : OpenRouting) → StandsIn files tracked question plan t made → RowsForSessions files made.net
rows_there files tracked question plan t made stands inner =
    stands.distances ∙ ap (λ b. if b then length files * length (advertised files) else 0) (inner_runs files inner)

pub distances_for : (w : Reading) (files : List File) (net : SymNet) →
    (runs_bgp files ≡ true → HasDistances w files net) → DistancesForSessions w files net
distances_for w files net given inner = given (inner_runs files inner)

pub net_stands : (files : List File) (tracked : Tracked) (question : Question) (plan : Plan) (t : Store)
    (made : OpenRouting) → StandsIn files tracked question plan t made →
    HasRows files made.net × (net_end made.net ≤ size t)
net_stands files tracked question plan t made stands = (stands.distances, stands.net)

-- ---- where no router runs BGP no slot has a route of BGP

no_process : (files : List File) (router : ℕ) (file : File) → runs_bgp files ≡ false → slice_get files router ≡ Some file →
    file.bgp ≡ None
no_process files router file none found = by file.bgp refl where
  by : (o : Option Bgp) → file.bgp ≡ o → o ≡ None
  by None is = refl
  by (Some process) is =
      let some = any_passes_from_place sessions.runs_bgp files router file found (ap is_some is) in
      absurd (let no : false ≡ true = sym none ∙ some in cc)

no_room : (tracked : Tracked) (files : List File) (router len : ℕ) → runs_bgp files ≡ false →
    bgp_room tracked files router len ≡ None
no_room tracked files router len none = by (brings_bgp files len) where
  by_file : (o : Option File) → slice_get files router ≡ o → option_and_then (λ (file : File). file.bgp) o ≡ None
  by_file None is = refl
  by_file (Some file) is = no_process files router file none is

  by : (b : Bool) → option_map (λ process. held_room tracked files)
      (if b then option_and_then (λ (file : File). file.bgp) (slice_get files router) else None) ≡ None
  by true = ap (option_map (λ process. held_room tracked files)) (by_file (slice_get files router) refl)
  by false = refl

open_none : (files : List File) (tracked : Tracked) (question : Question) (failures : Failures) (d : Addr)
    (ps : List Place) (us : List Unknown) (v : ℕ → Bool) (from router len : ℕ) (o : OpenSlot) →
    runs_bgp files ≡ false →
    item_at ps (opens_with files question failures d ps us (bgps_from (bgp_rooms tracked files ps) v from)) router len
    ≡ Some o → o.bgp ≡ None
unfolding opens_with item_at bgps_from
open_none files tracked question failures d [] us v from router len o none there = absurd cc
open_none files tracked question failures d (p ∷ ps) [] v from router len o none there = absurd cc
open_none files tracked question failures d (p ∷ ps) (u ∷ us) v from router len o none there =
    by (is_at router len p) there (λ rest.
    open_none files tracked question failures d ps us v (from + bgp_width (bgp_room tracked files p.router p.len)) router
    len o none rest)
  where
    held : (room : Option Room) (b : Option BgpShape) → (open_with files failures d room p u b).bgp ≡ b
    held None b = refl
    held (Some room) b = refl

    here : OpenSlot
    here = open_with files failures d (room_for files question.packets.dst p.router p.len) p u
        (bgp_from (bgp_room tracked files p.router p.len) v from)

    by : (b : Bool) → (if b then Some here else item_at ps
        (opens_with files question failures d ps us (bgps_from (bgp_rooms tracked files ps) v
        (from + bgp_width (bgp_room tracked files p.router p.len)))) router len) ≡ Some o →
        (item_at ps (opens_with files question failures d ps us (bgps_from (bgp_rooms tracked files ps) v
        (from + bgp_width (bgp_room tracked files p.router p.len)))) router len ≡ Some o → o.bgp ≡ None) → o.bgp ≡ None
    by true is rest =
        ap (λ (x : OpenSlot). x.bgp) (sym (same_Some here o is))
        ∙ held (room_for files question.packets.dst p.router p.len)
        (bgp_from (bgp_room tracked files p.router p.len) v from)
        ∙ ap (λ (room : Option BgpRoom). bgp_from room v from) (no_room tracked files p.router p.len none)
    by false is rest = rest is

-- what is true of each thing at its place is true of all
all_items : {X : Type 0} (P : X → Type 0) (ps : List Place) (xs : List X) → length xs ≡ length ps → AllPairs IsBefore ps →
    ((p : Place) (x : X) → In p ps → item_at ps xs p.router p.len ≡ Some x → P x) → All P xs
unfolding item_at
all_items P [] [] long order each = All-nil P
all_items P [] (x ∷ xs) long order each = absurd (omega (arith, long))
all_items P (p ∷ ps) [] long order each = absurd (omega (arith, long))
all_items {X} P (p ∷ ps) (x ∷ xs) long order each =
    All-cons P x xs (each p x (inl refl) (ap (λ b. if b then Some x else item_at ps xs p.router p.len) (here_at p)))
    (all_items P ps xs (omega (arith, long)) (later IsBefore p ps order) (λ q y there is.
    each q y (inr there) (ap (λ b. if b then Some x else item_at ps xs q.router q.len)
    (not_back p q (all_in (IsBefore p) ps q (first IsBefore p ps order) there)) ∙ is)))

each_all : {X : Type 0} (P : X → Type 0) (xs : List X) → ((x : X) → P x) → All P xs
each_all P [] each = All-nil P
each_all P (x ∷ xs) each = All-cons P x xs (each x) (each_all P xs each)

-- ---- the symbolic world of a routing

module _ (w : Reading) (files : List File) (tracked : Tracked) (question : Question) (plan : Plan) (from : ℕ)
    (t : Store) (made : OpenRouting) (slots : List SymSlot) (stands : StandsIn files tracked question plan t made)
    (read : ReadsAs files tracked question plan from w made) (long : length slots ≡ length made.frame.places)
    (shapes : ReadAsShapes files tracked question plan from w slots) where
  places : made.frame.places ≡ places_in files plan
  places = places_are files tracked plan made.frame stands.frame

  abbrev opens : List OpenSlot
  opens = opens_from files tracked question plan w.variable from

  abbrev failures : Failures
  failures = failures_read_from files question w.variable from

  abbrev packet : Packet
  packet = packet_from question.packets w.variable from

  route_none : runs_bgp files ≡ false → (p : Place) (x : SymSlot) → In p (places_in files plan) →
      item_at (places_in files plan) slots p.router p.len ≡ Some x → bgp_of w x.bgp ≡ None
  unfolding shape_world_from
  route_none none p x there is =
      ap (λ (s : ShapeSlot). s.bgp) (same_Some (slot_read w x) (shape_slot_among files question.packets.dst failures packet.dst
      (places_in files plan) opens p.router p.len) shape)
      ∙ by (item_at (places_in files plan) opens p.router p.len) refl
    where
      inside : (p.router < length files) × (p.len < LENGTHS)
      inside =
          let found = in-places (lens_of plan) (length files) p there in
          (found.0, (in-lens plan LENGTHS p.len found.1).0)

      shape : Some (slot_read w x) ≡ Some (shape_slot_among files question.packets.dst
          (failures_read_from files question w.variable from) (packet_from question.packets w.variable from).dst
          (places_in files plan) (opens_from files tracked question plan w.variable from) p.router p.len)
      shape =
          sym (ap (option_map (slot_read w)) is)
          ∙ shapes p.router p.len inside.0 inside.1 (has-in (places_in files plan) p.router p.len there)
          ∙ slot_here files question.packets.dst plan packet failures opens
          (announced_by files tracked question plan w.variable from) p.router p.len inside.0 inside.1

      by : (o : Option OpenSlot) → item_at (places_in files plan) opens p.router p.len ≡ o →
          (option_map_or (shape_slot_of files question.packets.dst failures packet.dst (place p.router p.len)) o
          empty_shape).bgp ≡ None
      by None gone = refl
      by (Some o) here = by_used (can_be_used files question.packets.dst p.router p.len) where
        by_used : (b : Bool) →
            (if b then open_shape files failures packet.dst p.router p.len o else empty_shape).bgp ≡ None
        by_used true =
            open_none files tracked question failures packet.dst (places_in files plan)
            (unknowns_read_from files question plan w.variable from) w.variable (bgps_start files question plan from)
            p.router p.len o none here
        by_used false = refl

  -- a slot with a route of BGP is one of a network whose distances are known
  pub distances_needed : (runs_bgp files ≡ true → HasDistances w files made.net) →
      DistancesWhereNeeded w files made.net slots
  distances_needed given = by (runs_bgp files) refl where
    by : (b : Bool) → runs_bgp files ≡ b → DistancesWhereNeeded w files made.net slots
    by true is = each_all (DistancesIfNeeded w files made.net) slots (λ x valid. given is)
    by false is =
        all_items (DistancesIfNeeded w files made.net) (places_in files plan) slots (long ∙ ap length places)
        (subst (λ qs. AllPairs IsBefore qs) places stands.frame.ascend) (λ p x there here valid.
        let none = route_none is p x there here in
        absurd (let some : Some (bgp_at w x.bgp) ≡ None =
        sym (ap (λ b. if b then Some (bgp_at w x.bgp) else None) valid) ∙ none in cc))

  -- the world that walks see, with other tables of the same packet and failed links
  pub whole_is : (world : SymWorld) (other : World) → world.packet ≡ made.packet → world.net ≡ made.net →
      world.slots ≡ slots → world.plan ≡ plan →
      other.packet ≡ (shape_world_from files tracked question plan w.variable from).packet →
      other.failures ≡ (shape_world_from files tracked question plan w.variable from).failures →
      whole_of w files world
      ≡ record other { tables = tables_of w (lens_of plan) (length files) slots }
  unfolding shape_world_from
  whole_is world other packet net same at_plan to_packet to_failures =
      let p = ap (packet_of w) packet ∙ read.packet ∙ sym to_packet in
      let f = ap (failures_of w) net ∙ read.failures ∙ sym to_failures in
      λ i. record {
        packet = p i;
        failures = f i;
        tables = tables_of w (lens_of (at_plan i)) (length files) (same i);
      }

  -- what is said of distances is true of those that are read
  pub distances_said : (other : World) → SayDistances files tracked question plan other w.variable from →
      other.failures ≡ (shape_world_from files tracked question plan w.variable from).failures →
      runs_bgp files ≡ true → HasDistances w files made.net
  unfolding shape_world_from
  distances_said other say to_failures runs =
      rows_are w files made.net runs
      (read.distances ∙ say
      ∙ ap (λ f. map (option_map internal_route) (distances files f)) (to_failures ∙ sym read.failures))

  pub stands_world : (world : SymWorld) (env : SymEnv) → world.packet ≡ made.packet → world.net ≡ made.net →
      world.slots ≡ slots → env ≡ made.env → StandsForWorld files tracked question plan from w world env
  unfolding shape_world_from
  stands_world world env packet net same outside = record {
    packet = ap (packet_of w) packet ∙ read.packet;
    failures = ap (failures_of w) net ∙ read.failures;
    slots = subst (ReadAsShapes files tracked question plan from w) (sym same) shapes;
    environment = ap (environment_read w files (lens_of plan)) outside ∙ read.environment;
  }

-- distances are needed in the symbolic world where they are in its parts
pub needed_by : (w : Reading) (files : List File) (net : SymNet) (world : SymWorld) (slots : List SymSlot) →
    world.net ≡ net → world.slots ≡ slots → DistancesWhereNeeded w files net slots →
    DistancesWhereNeeded w files world.net world.slots
needed_by w files net world slots to_net to_slots needed =
    subst (λ (n : SymNet). DistancesWhereNeeded w files n world.slots) (sym to_net)
    (subst (λ (xs : List SymSlot). DistancesWhereNeeded w files net xs) (sym to_slots) needed)

-- its slots stand for the tables for which those do that it is made of
pub stands_as : (w : Reading) (files : List File) (tracked : Tracked) (plan : Plan) (slots : List SymSlot)
    (tables : Tables) (world : SymWorld) → world.plan ≡ plan → world.slots ≡ slots →
    StandForTables w tracked (lens_of plan) (length files) slots tables →
    StandForTables w tracked (lens_of world.plan) (length files) world.slots tables
stands_as w files tracked plan slots tables world at_plan same stand =
    subst (λ q. StandForTables w tracked (lens_of q) (length files) world.slots tables) (sym at_plan)
    (subst (λ xs. StandForTables w tracked (lens_of plan) (length files) xs tables) (sym same) stand)

-- ---- what walks want of the symbolic world

pub world_slots : (files : List File) (tracked : Tracked) (question : Question) (plan : Plan) (t : Store)
    (made : OpenRouting) (slots : List SymSlot) (world : SymWorld) → StandsIn files tracked question plan t made →
    length slots ≡ length made.frame.places → world.slots ≡ slots → world.plan ≡ plan → HasSlots files world
world_slots files tracked question plan t made slots world stands long same at_plan =
    ap length same ∙ long ∙ stands.frame.many
    ∙ ap (λ ls. length files * length ls) (stands.frame.lens ∙ ap lens_of (sym at_plan))

pub world_nodes : (files : List File) (tracked : Tracked) (question : Question) (plan : Plan) (t u : Store)
    (made : OpenRouting) (slots : List SymSlot) (world : SymWorld) → StandsIn files tracked question plan t made →
    slots_end slots ≤ size t → size t ≤ size u → world.packet ≡ made.packet → world.net ≡ made.net →
    world.slots ≡ slots → whole_end world ≤ size u
world_nodes files tracked question plan t u made slots world stands within larger to_packet to_net to_slots =
    let packet : packet_end world.packet ≤ size u =
    let own = stands.packet in subst (λ (p : SymPacket). packet_end p ≤ size u) (sym to_packet) (omega (arith, own, larger)) in
    let net : net_end world.net ≤ size u =
    let own = stands.net in subst (λ (n : SymNet). net_end n ≤ size u) (sym to_net) (omega (arith, own, larger)) in
    let each : slots_end world.slots ≤ size u =
    subst (λ (xs : List SymSlot). slots_end xs ≤ size u) (sym to_slots) (omega (arith, within, larger)) in
    omega (arith, packet, net, each)

-- the environment of a routing stands in a larger store too
pub has_environment : (files : List File) (tracked : Tracked) (question : Question) (plan : Plan) (t u : Store)
    (made : OpenRouting) (env : SymEnv) → StandsIn files tracked question plan t made → size t ≤ size u →
    env ≡ made.env → HasEnvironment files tracked plan u env
has_environment files tracked question plan t u made env stands larger same =
    subst (HasEnvironment files tracked plan u) (sym same) (record {
      nodes = let own = stands.environment in omega (arith, own, larger);
      fits = subst (λ (ls : List ℕ). FitsNet files tracked ls made.env) stands.frame.lens stands.fits;
    })
