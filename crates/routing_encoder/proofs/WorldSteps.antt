-- The slots of a routing, by router and length.
use Rattle.std.proofs.Common.{◌≡◌, ℕ, ◌+◌, ◌*◌, ◌/◌, ◌%◌, ◌<◌, ◌≤◌, ◌||◌, Bool, true, false, List, [], ◌∷◌, length, map}
use Rattle.std.proofs.Common.{Option, Some, None, refl, sym, ap, arith, is_some, ◌∙◌}
use Rattle.std.specs.Prelude.{option_map, slice_get, if◌then◌else◌}
use Rattle.std.specs.List.{range_with_len}
use Rattle.std.specs.Option.{option_map_or}
use Rattle.std.proofs.lemmas.Option.{slice_get-map}
use Rattle.ios_ast.specs.declared.file.File.{File}
use Rattle.route_record.specs.declared.Failures.{Failures}
use Rattle.route_record.specs.declared.Packet.{Packet}
use Rattle.route_record.specs.declared.Plan.{Plan}
use Rattle.route_record.specs.declared.TheConstants.{LENGTHS}
use Rattle.route_record.specs.declared.tracked.Tracked.{Tracked}
use Rattle.bgp_shapes.specs.Candidates.{ShapeEnvironment, ShapeSlot}
use Rattle.plan_places.specs.declared.places.Place.{Place}
use Rattle.plan_places.specs.Places.{has_place, is_at, item_at, place, places_of}
use Rattle.question_lang.specs.declared.question.Question.{Question}
use Rattle.slot_places.proofs.PlaceLaws.{at-is}
use Rattle.term_store.specs.Terms.{Reading, Store, size}
use Rattle.term_arith.specs.Bits.{ids_end}
use Rattle.sym_policy.specs.Held.{bgp_of, failures_of}
use Rattle.sym_policy.specs.Records.{address_of}
use Rattle.sym_rib.specs.declared.slots.SymSlot.{SymSlot}
use Rattle.world_variables.specs.Packets.{packet_from}
use Rattle.world_variables.specs.Symbols.{open_of}
use Rattle.world_variables.specs.Worlds.{places_in}
use Rattle.bgp_equations.specs.Equations.{slot_read}
use Rattle.shape_worlds.specs.Worlds.{slots_for}
use Rattle.shape_worlds.proofs.RealWorlds.{len_at, router_at}
use Rattle.bgp_worlds.specs.Opens.{OpenSlot, empty_shape, shape_slot_among, shape_slot_of, shape_world_of}
use Rattle.bgp_worlds.proofs.Placed.{place_small, range-at}
use Rattle.routing_worlds.specs.Worlds.{announced_by, failures_read_from, opens_from, opens_with, shape_world_from}
use Rattle.routing_encoder.specs.declared.opening.OpenRouting.{OpenRouting}
use Rattle.routing_encoder.specs.Opened.{ReadsAs, StandsIn}
use Rattle.routing_encoder.specs.Shapes.{ReadAsShapes}
use Rattle.routing_encoder.specs.Slots.{shapes_over}
use Rattle.routing_encoder.proofs.OpeningSteps.{places_are}

-- ---- things at places

item_map : {X Y : Type 0} (g : X → Y) (ps : List Place) (xs : List X) (router len : ℕ) →
    item_at ps (map g xs) router len ≡ option_map g (item_at ps xs router len)
unfolding item_at
item_map g [] xs router len = refl
item_map g (p ∷ ps) [] router len = refl
item_map {X} {Y} g (p ∷ ps) (x ∷ xs) router len = by (is_at router len p) (item_map g ps xs router len) where
  by : (b : Bool) → item_at ps (map g xs) router len ≡ option_map g (item_at ps xs router len) →
      (if b then Some (g x) else item_at ps (map g xs) router len)
      ≡ option_map g (if b then Some x else item_at ps xs router len)
  by true rest = refl
  by false rest = rest

item_over : {U X : Type 0} (f : Place → U → X) (ps : List Place) (us : List U) (router len : ℕ) →
    item_at ps (shapes_over f ps us) router len ≡ option_map (f (place router len)) (item_at ps us router len)
unfolding item_at shapes_over
item_over f [] us router len = refl
item_over f (p ∷ ps) [] router len = refl
item_over {U} {X} f (p ∷ ps) (u ∷ us) router len = by (is_at router len p) refl (item_over f ps us router len) where
  by : (b : Bool) → is_at router len p ≡ b →
      item_at ps (shapes_over f ps us) router len ≡ option_map (f (place router len)) (item_at ps us router len) →
      (if b then Some (f p u) else item_at ps (shapes_over f ps us) router len)
      ≡ option_map (f (place router len)) (if b then Some u else item_at ps us router len)
  by true is rest = ap (λ q. Some (f q u)) (at-is p router len is)
  by false is rest = rest

-- something stands at each place where there are as many things
item_some : {X : Type 0} (ps : List Place) (xs : List X) (router len : ℕ) → length xs ≡ length ps →
    has_place ps router len ≡ true → is_some (item_at ps xs router len) ≡ true
unfolding item_at
item_some [] xs router len long there = absurd cc
item_some (p ∷ ps) [] router len long there = absurd (omega (arith, long))
item_some {X} (p ∷ ps) (x ∷ xs) router len long there =
    by (is_at router len p) there (λ later. item_some ps xs router len (omega (arith, long)) later)
  where
    by : (b : Bool) → (b || has_place ps router len) ≡ true →
        (has_place ps router len ≡ true → is_some (item_at ps xs router len) ≡ true) →
        is_some (if b then Some x else item_at ps xs router len) ≡ true
    by true there' rest = refl
    by false there' rest = rest there'

-- ---- the slots of a world by shapes

slot_here : (files : List File) (question : Question) (plan : Plan) (packet : Packet) (failures : Failures)
    (opens : List OpenSlot) (announced : ShapeEnvironment) (router len : ℕ) → router < length files → len < LENGTHS →
    slots_for (shape_world_of files question.packets.dst plan packet failures opens announced) len router
    ≡ Some (shape_slot_among files question.packets.dst failures packet.dst (places_of plan (length files)) opens router len)
slot_here files question plan packet failures opens announced router len within below =
    number (33 * router + len) (place_small router len (length files) within below)
    ∙ (λ i. Some (among (router_at router len below i) (len_at router len below i)))
  where
    among : ℕ → ℕ → ShapeSlot
    among router len =
        shape_slot_among files question.packets.dst failures packet.dst (places_of plan (length files)) opens router len

    number : (k : ℕ) → k < LENGTHS * length files →
        slice_get (shape_world_of files question.packets.dst plan packet failures opens announced).slots k
        ≡ Some (among (k / LENGTHS) (k % LENGTHS))
    number k below =
        slice_get-map (λ k. among (k / LENGTHS) (k % LENGTHS)) (range_with_len 0 (LENGTHS * length files)) k
        ∙ ap (option_map (λ k. among (k / LENGTHS) (k % LENGTHS))) (range-at 0 (LENGTHS * length files) k below)
        ∙ (let first : 0 + k ≡ k = omega arith in ap (λ m. Some (among (m / LENGTHS) (m % LENGTHS))) first)

-- what reads as those that follow from what is open is there as the world has it
whole : (f : OpenSlot → ShapeSlot) (read : SymSlot → ShapeSlot) (o : Option OpenSlot) (s : Option SymSlot) →
    is_some s ≡ true → option_map read s ≡ option_map f o → option_map read s ≡ Some (option_map_or f o empty_shape)
whole f read None None there same = absurd cc
whole f read None (Some s) there same = absurd cc
whole f read (Some o) s there same = same

-- slots that read as those that follow from what is open read as those of the world of the variables
pub shapes_are : (w : Reading) (files : List File) (tracked : Tracked) (question : Question) (plan : Plan) (from : ℕ)
    (t : Store) (made : OpenRouting) (slots : List SymSlot) → StandsIn files tracked question plan t made →
    ReadsAs files tracked question plan from w made → length slots ≡ length made.frame.places →
    map (slot_read w) slots ≡ shapes_over (shape_slot_of files question.packets.dst (failures_of w made.net)
    (address_of w made.packet.dst)) made.frame.places (opens_with files question (failures_of w made.net)
    (address_of w made.packet.dst) made.frame.places (map (open_of w) made.parts) (map (bgp_of w) made.routes)) →
    ReadAsShapes files tracked question plan from w slots
unfolding shape_world_from
shapes_are w files tracked question plan from t made slots stands read long same router len within below there =
    whole (f (place router len)) (slot_read w) (item_at ps opens router len) (item_at ps slots router len)
    (item_some ps slots router len (long ∙ ap length places) there) item
    ∙ sym (slot_here files question plan (packet_from question.packets w.variable from)
    (failures_read_from files question w.variable from) opens
    (announced_by files tracked question plan w.variable from) router len within below)
  where
    ps : List Place
    ps = places_in files plan

    opens : List OpenSlot
    opens = opens_from files tracked question plan w.variable from

    f : Place → OpenSlot → ShapeSlot
    f = shape_slot_of files question.packets.dst (failures_read_from files question w.variable from)
        (packet_from question.packets w.variable from).dst

    places : made.frame.places ≡ places_in files plan
    places = places_are files tracked plan made.frame stands.frame

    dst : address_of w made.packet.dst ≡ (packet_from question.packets w.variable from).dst
    dst = ap (λ (x : Packet). x.dst) read.packet

    over : map (slot_read w) slots ≡ shapes_over f ps opens
    over = same ∙ (λ i. shapes_over (shape_slot_of files question.packets.dst (read.failures i) (dst i)) (places i)
        (opens_with files question (read.failures i) (dst i) (places i) (read.parts i) (read.routes i)))

    item : option_map (slot_read w) (item_at ps slots router len)
        ≡ option_map (f (place router len)) (item_at ps opens router len)
    item = sym (item_map (slot_read w) ps slots router len) ∙ ap (λ ys. item_at ps ys router len) over
        ∙ item_over f ps opens router len

-- what the slots are made of stands in the store
pub stands_ready : (files : List File) (tracked : Tracked) (question : Question) (plan : Plan) (t : Store)
    (made : OpenRouting) → StandsIn files tracked question plan t made →
    (ids_end made.packet.dst.nodes.items ≤ size t) × (ids_end made.net.down ≤ size t)
stands_ready files tracked question plan t made stands =
    let packet = stands.packet in
    let net = stands.net in
    (omega (arith, packet), omega (arith, net))

-- and in a larger one
pub stands_grown : (files : List File) (tracked : Tracked) (question : Question) (plan : Plan) (t u : Store)
    (made : OpenRouting) → StandsIn files tracked question plan t made → size t ≤ size u →
    StandsIn files tracked question plan u made
stands_grown files tracked question plan t u made stands larger =
    let packet = stands.packet in
    let net = stands.net in
    let parts = stands.parts in
    let routes = stands.routes in
    let environment = stands.environment in
    record {
      frame = stands.frame;
      destinations = stands.destinations;
      packet = omega (arith, packet, larger);
      net = omega (arith, net, larger);
      distances = stands.distances;
      parts = omega (arith, parts, larger);
      parts_long = stands.parts_long;
      routes = omega (arith, routes, larger);
      routes_long = stands.routes_long;
      rows = stands.rows;
      environment = omega (arith, environment, larger);
      fits = stands.fits;
    }
