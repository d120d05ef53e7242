-- What the root of one network says.
use Rattle.std.proofs.Common.{◌≡◌, ◌<◌, ◌≤◌, ◌∙◌, ℕ, Bool, true, List, Option, None, length, arith, refl, sym, ap, subst}
use Rattle.ios_ast.specs.declared.file.File.{File}
use Rattle.route_record.specs.declared.Environment.{Environment}
use Rattle.route_record.specs.declared.Plan.{Plan}
use Rattle.route_record.specs.declared.World.{World}
use Rattle.route_record.specs.declared.tracked.Tracked.{Tracked}
use Rattle.net_model.specs.Kept.{Network}
use Rattle.question_lang.specs.declared.walk.Walk.{Walk}
use Rattle.question_lang.specs.Hops.{next_hops}
use Rattle.packet_fates.specs.declared.fate.Fate.{Fate}
use Rattle.packet_fates.specs.Fates.{HasFate}
use Rattle.fate_terms.specs.Named.{AreFateNodes}
use Rattle.plan_places.specs.Plans.{lens_of, single_plan}
use Rattle.sliced_routings.specs.Plans.{IsFittingPlan}
use Rattle.sliced_routings.specs.Slicing.{IsSlicedBreak}
use Rattle.shape_worlds.specs.Worlds.{ShapeWorld, shapes_of}
use Rattle.term_arith.specs.Bits.{ids_end}
use Rattle.term_store.specs.declared.NodeId.{NodeId}
use Rattle.term_store.specs.Reading.{Builds, Reads}
use Rattle.term_store.specs.Terms.{Agrees, IsSound, Reading, Store, at, reading_of, size, truth, value_of}
use Rattle.sym_rib.specs.declared.slots.SymSlot.{SymSlot}
use Rattle.sym_rib.specs.Worlds.{StandForTables, tables_of}
use Rattle.sym_walk.specs.declared.breaks.SymWorld.{SymWorld}
use Rattle.sym_walk.specs.Distances.{DistancesWhereNeeded}
use Rattle.sym_walk.specs.Whole.{HasSlots, whole_of}
use Rattle.bgp_equations.specs.declared.environment.SymEnv.{SymEnv}
use Rattle.routing_encoder.specs.declared.encoding.Encoding.{Encoding}
use Rattle.routing_encoder.specs.Encoded.{HasEnvironment, HasWorld, IsEncoding, StandsForWorld, routing_bits}
use Rattle.routing_encoder.specs.Opened.{routing_width}
use Rattle.routing_worlds.specs.Worlds.{HasWordNetwork, environment_from, is_routing, shape_world_from, world_from}
use Rattle.routing_worlds.proofs.RoutingSound.{shapes_are}
use Rattle.same_asks.specs.declared.same.Same.{Same}
use Rattle.routing_encoder.proofs.RealWorlds.{stand_for}
use Rattle.routing_encoder.proofs.SinglePlan.{all_sliced, fits_single}
use Rattle.routings_beside.specs.declared.sides.SideTerms.{SideTerms}
use Rattle.routings_beside.specs.Pairs.{IsSide, SayFates, SaysRouting, StandAmong, own_bits, question_of}
use Rattle.routings_beside.specs.Sides.{IsSideTerms}
use Rattle.routings_beside.proofs.Hops.{fates_by_hops}
use Rattle.routings_beside.proofs.Readings.{reads_by}

pub side_width : (files : List File) (tracked : Tracked) (ask : Same) (e : Encoding) →
    IsEncoding files tracked (question_of ask) e → e.world.plan ≡ single_plan →
    e.terms.vars ≡ routing_width files tracked (question_of ask) single_plan
side_width files tracked ask e encoding plan =
    encoding.vars ∙ ap (λ (p : Plan). routing_width files tracked (question_of ask) p) plan

-- whatever values make it true say a stable routing, and its shapes
pub side_sound : (net : Network) (ask : Same) (e : Encoding) →
    IsEncoding net.files net.tracked (question_of ask) e → e.world.plan ≡ single_plan →
    HasWordNetwork net.files net.tracked (question_of ask) → 0 < length net.files →
    (valuation : List Bool) → value_of e.terms.nodes valuation e.root.0 ≡ true → SaysRouting net ask valuation
side_sound net ask e encoding plan words some valuation holds =
    let files = net.files in
    let tracked = net.tracked in
    let all : IsFittingPlan files single_plan → (values : List Bool) →
    value_of e.terms.nodes values e.root.0 ≡ true →
    (is_routing files tracked (question_of ask) single_plan (truth values) 0 ≡ true) × ((walk : Option Walk)
    × IsSlicedBreak files (question_of ask) single_plan
    (world_from files tracked (question_of ask) single_plan (truth values) 0)
    (environment_from files tracked (question_of ask) single_plan (truth values) 0) walk) =
    subst (λ (p : Plan). IsFittingPlan files p → (values : List Bool) →
    value_of e.terms.nodes values e.root.0 ≡ true →
    (is_routing files tracked (question_of ask) p (truth values) 0 ≡ true) × ((walk : Option Walk)
    × IsSlicedBreak files (question_of ask) p
    (world_from files tracked (question_of ask) p (truth values) 0)
    (environment_from files tracked (question_of ask) p (truth values) 0) walk)) plan encoding.sound in
    let found = all (fits_single files some) valuation holds in
    let breaking = found.1.1.breaking in record {
      passes = found.0;
      side = record {
        packet = breaking.packet;
        environment_fits = breaking.environment_fits;
        failures = breaking.failures;
        stable = breaking.stable;
      };
      shapes = sym (shapes_are files tracked (question_of ask) single_plan (truth valuation) 0 words found.0);
    }

-- a stable routing has no slices but those of the plan
sliced_side : (files : List File) (ask : Same) (world : World) (environment : Environment) →
    IsSide files ask world environment → IsSlicedBreak files (question_of ask) single_plan world environment None
sliced_side files ask world environment side = record {
  breaking = record {
    packet = side.packet;
    environment_fits = side.environment_fits;
    failures = side.failures;
    stable = side.stable;
    breaks = refl;
  };
  sliced = all_sliced world environment;
}

-- and the values of a stable routing make it true
pub side_complete : (files : List File) (tracked : Tracked) (ask : Same) (e : Encoding) →
    IsEncoding files tracked (question_of ask) e → e.world.plan ≡ single_plan →
    (world : World) (environment : Environment) → IsSide files ask world environment →
    value_of e.terms.nodes (routing_bits files tracked (question_of ask) single_plan world environment) e.root.0 ≡ true
side_complete files tracked ask e encoding plan world environment side =
    let all : IsSlicedBreak files (question_of ask) single_plan world environment None →
    value_of e.terms.nodes (routing_bits files tracked (question_of ask) single_plan world environment) e.root.0
    ≡ true =
    subst (λ (p : Plan). IsSlicedBreak files (question_of ask) p world environment None →
    value_of e.terms.nodes (routing_bits files tracked (question_of ask) p world environment) e.root.0 ≡ true) plan
    (encoding.complete world environment None) in
    all (sliced_side files ask world environment side)

-- they say its shapes
pub side_shapes : (files : List File) (tracked : Tracked) (ask : Same) (e : Encoding) →
    IsEncoding files tracked (question_of ask) e → e.world.plan ≡ single_plan →
    (world : World) (environment : Environment) → IsSide files ask world environment →
    shape_world_from files tracked (question_of ask) single_plan
    (truth (routing_bits files tracked (question_of ask) single_plan world environment)) 0
    ≡ shapes_of tracked world environment
side_shapes files tracked ask e encoding plan world environment side =
    let all : IsSlicedBreak files (question_of ask) single_plan world environment None →
    shape_world_from files tracked (question_of ask) single_plan
    (truth (routing_bits files tracked (question_of ask) single_plan world environment)) 0
    ≡ shapes_of tracked world environment =
    subst (λ (p : Plan). IsSlicedBreak files (question_of ask) p world environment None →
    shape_world_from files tracked (question_of ask) p
    (truth (routing_bits files tracked (question_of ask) p world environment)) 0
    ≡ shapes_of tracked world environment) plan
    (encoding.shapes world environment None) in
    all (sliced_side files ask world environment side)

-- ---- the fates of its packets

-- the world that walks see is that of a routing whose shapes the variables say, with other tables
whole_is : (w : Reading) (net : Network) (ask : Same) (world : SymWorld) (env : SymEnv) (real : World)
    (environment : Environment) → StandsForWorld net.files net.tracked (question_of ask) single_plan 0 w world env →
    shape_world_from net.files net.tracked (question_of ask) single_plan w.variable 0
    ≡ shapes_of net.tracked real environment →
    whole_of w net.files world
    ≡ record real { tables = tables_of w (lens_of world.plan) (length net.files) world.slots }
whole_is w net ask world env real environment stands same =
    let p = stands.packet ∙ ap (λ (s : ShapeWorld). s.packet) same in
    let f = stands.failures ∙ ap (λ (s : ShapeWorld). s.failures) same in
    λ i. record {
      packet = p i;
      failures = f i;
      tables = tables_of w (lens_of world.plan) (length net.files) world.slots;
    }

-- walks read of tables what slots that stand for them say
abbrev ReadTables : Type 0
ReadTables =
    (w : Reading) (tracked : Tracked) (lens : List ℕ) (routers : ℕ) (slots : List SymSlot) (world : World) →
    StandForTables w tracked lens routers slots world.tables → (files : List File) (router : ℕ) →
    next_hops files (record world { tables = tables_of w lens routers slots }) router ≡ next_hops files world router

-- nodes that tell of fates in the world that walks see tell of them in each routing whose shapes the variables say
pub say_fates : ReadTables → (w : Reading) (net : Network) (ask : Same) (start : ℕ) (fates : List Fate)
    (world : SymWorld) (env : SymEnv) (ids : List NodeId) → HasSlots net.files world → world.plan ≡ single_plan →
    StandsForWorld net.files net.tracked (question_of ask) single_plan 0 w world env →
    AreFateNodes w net.files (whole_of w net.files world) start fates ids → SayFates net ask start fates w ids
say_fates law w net ask start fates world env ids slots plan stands told = λ real environment same k fate id here there.
    let whole = whole_is w net ask world env real environment stands same in
    let tables = tables_of w (lens_of world.plan) (length net.files) world.slots in
    let read = stand_for w net.files net.tracked (question_of ask) single_plan world env real environment slots plan
    stands same in
    let hops = law w net.tracked (lens_of world.plan) (length net.files) world.slots real read net.files in
    let node = told k fate id here there in
    let by = fates_by_hops net.files real tables hops start fate in (
      λ holds. by.0 (subst (λ (x : World). HasFate net.files x start fate) whole (node.0 holds)),
      λ has. node.1 (subst (λ (x : World). HasFate net.files x start fate) (sym whole) (by.1 has)),
    )

-- ---- one network's terms

-- the encoding of the routings with nodes of fates beside
pub side_terms : ReadTables → (net : Network) (ask : Same) (start : ℕ) (fates : List Fate) (e : Encoding) (t : Store)
    (ids : List NodeId) → IsEncoding net.files net.tracked (question_of ask) e → e.world.plan ≡ single_plan →
    HasWorld net.files net.tracked e.terms e.world → HasEnvironment net.files net.tracked single_plan e.terms e.env →
    ((w : Reading) → Reads w e.terms → at w e.root ≡ true →
    DistancesWhereNeeded w net.files e.world.net e.world.slots) →
    HasWordNetwork net.files net.tracked (question_of ask) →
    ((w : Reading) (valuation : List Bool) → Reads w e.terms → Agrees w valuation e.terms.vars → (i : ℕ) →
    i < size e.terms → w.node i ≡ value_of e.terms.nodes valuation i) →
    Builds e.terms t → ids_end ids ≤ size t → length ids ≡ length fates →
    ((w : Reading) → Reads w t → DistancesWhereNeeded w net.files e.world.net e.world.slots →
    AreFateNodes w net.files (whole_of w net.files e.world) start fates ids) →
    IsSound t.nodes t.vars → ((valuation : List Bool) → Reads (reading_of t.nodes valuation) t) →
    IsSideTerms net ask start fates
    (record { terms = t; root = e.root; side = record { world = e.world; env = e.env; fates = ids } })
side_terms law net ask start fates e t ids encoding plan stands outside distances words has_values builds within long
    told ordered reads = record {
      root = let own = encoding.root in let more = builds.larger in omega (arith, own, more);
      vars = builds.same_vars ∙ side_width net.files net.tracked ask e encoding plan;
      ordered = ordered;
      reads = reads;
      sound = λ some valuation holds.
          side_sound net ask e encoding plan words some valuation (sym (old valuation) ∙ holds);
      complete = λ world environment side.
          old (own_bits net ask world environment)
          ∙ side_complete net.files net.tracked ask e encoding plan world environment side;
      shapes = side_shapes net.files net.tracked ask e encoding plan;
      nodes = let own = stands.nodes in let more = builds.larger in omega (arith, own, more);
      outside = record {
        nodes = let own = outside.nodes in let more = builds.larger in omega (arith, own, more);
        fits = outside.fits;
      };
      fates_stand = within;
      fates_long = long;
      world = λ w read. world w (builds.reads w read);
      told = λ w read holds.
          say_fates law w net ask start fates e.world e.env ids stands.slots plan (world w (builds.reads w read))
          (told w read (distances w (builds.reads w read) holds));
    } where
      -- the root has its value
      old : (valuation : List Bool) → value_of t.nodes valuation e.root.0 ≡ value_of e.terms.nodes valuation e.root.0
      old valuation =
          has_values (reading_of t.nodes valuation) valuation
          (builds.reads (reading_of t.nodes valuation) (reads valuation)) (λ k below. refl) e.root.0 encoding.root

      world : (w : Reading) → Reads w e.terms →
          StandsForWorld net.files net.tracked (question_of ask) single_plan 0 w e.world e.env
      world w read =
          subst (λ (p : Plan). StandsForWorld net.files net.tracked (question_of ask) p 0 w e.world e.env) plan
          (encoding.world w read)

-- ---- where its nodes have the values of its variables

module _ (net : Network) (ask : Same) (start : ℕ) (fates : List Fate) (s : SideTerms)
    (is : IsSideTerms net ask start fates s) (xs : List Bool) (f : ℕ → Bool)
    (same : (i : ℕ) → i < size s.terms → f i ≡ value_of s.terms.nodes xs i) where
  abbrev read_by : Reading
  read_by = record { variable = truth xs; node = f }

  reads_it : Reads read_by s.terms
  reads_it = reads_by s.terms (reading_of s.terms.nodes xs) f is.ordered (is.reads xs) same

  -- its world and its environment read as these say
  pub side_stands : StandsForWorld net.files net.tracked (question_of ask) single_plan 0 read_by s.side.world s.side.env
  side_stands = is.world read_by reads_it

  -- and so do its fates, where the root is true
  pub side_fates : at read_by s.root ≡ true → SayFates net ask start fates read_by s.side.fates
  side_fates holds = is.told read_by reads_it holds

-- its nodes are among those of a larger store
pub side_among : (net : Network) (ask : Same) (start : ℕ) (fates : List Fate) (s : SideTerms) (many : ℕ) →
    IsSideTerms net ask start fates s → size s.terms ≤ many → StandAmong net fates many s.side
side_among net ask start fates s many is more = record {
  world = let own = is.nodes in omega (arith, own, more);
  environment = let own = is.outside.nodes in omega (arith, own, more);
  announced = is.outside.fits;
  fates_stand = let own = is.fates_stand in omega (arith, own, more);
  fates_long = is.fates_long;
}
