-- Stable routings of two networks, one of each, and what is said of both as terms.
use Rattle.std.specs.Prelude.{◌≡◌, ◌+◌, ◌<◌, ◌≤◌, ℕ, Bool, true, List, ◌++◌, drop, length, take}
use Rattle.ios_ast.specs.declared.file.File.{File}
use Rattle.route_record.specs.declared.Environment.{Environment}
use Rattle.route_record.specs.declared.World.{World}
use Rattle.net_model.specs.Kept.{Network}
use Rattle.net_parts.specs.Stable.{Stable}
use Rattle.net_parts.specs.World.{IsEnvironment, IsFailureSet}
use Rattle.packet_fates.specs.declared.fate.Fate.{Fate}
use Rattle.question_lang.specs.declared.question.Kind.TheVariants.{NoStable}
use Rattle.question_lang.specs.declared.question.Question.{Question}
use Rattle.question_lang.specs.Packets.{IsInSet}
use Rattle.plan_places.specs.Plans.{lens_of, single_plan}
use Rattle.bgp_equations.specs.Environments.{FitsNet, env_end}
use Rattle.fate_terms.specs.Named.{AreFateNodes}
use Rattle.routing_encoder.specs.Encoded.{StandsForWorld, routing_bits}
use Rattle.routing_encoder.specs.Opened.{routing_width}
use Rattle.routing_worlds.specs.Worlds.{environment_from, is_routing, shape_world_from, world_from}
use Rattle.same_asks.specs.declared.same.Same.{Same}
use Rattle.shape_worlds.specs.Worlds.{shapes_of}
use Rattle.sym_walk.specs.Whole.{whole_end}
use Rattle.term_arith.specs.Bits.{ids_end}
use Rattle.term_store.specs.declared.NodeId.{NodeId}
use Rattle.term_store.specs.Reading.{Reads}
use Rattle.term_store.specs.Terms.{Agrees, Reading, at, size, truth, value_of}
use Rattle.terms_beside.specs.Beside.{exactly, place_of}
use Rattle.routings_beside.specs.declared.encoding.PairTerms.{PairTerms}
use Rattle.routings_beside.specs.declared.sides.Side.{Side}

-- the question whether there is no stable routing at all, of the ask's packets
abbrev pub question_of : Same → Question
question_of ask = record {
  name = ask.name;
  kind = NoStable;
  packets = ask.packets;
  failures = ask.failures;
}

-- a stable routing of one network: for a packet of the ask, in an environment that its peers may make, with at most so
-- many failed links as the ask allows
pub record IsSide (files : List File) (ask : Same) (world : World) (environment : Environment) : Type 0 where
  pub packet : IsInSet ask.packets world.packet
  pub environment_fits : IsEnvironment files environment
  pub failures : IsFailureSet files ask.failures world.failures
  pub stable : Stable files world.packet.dst world.failures environment world.tables

-- ---- values of the variables of one network

-- how many there are
abbrev pub width : Network → Same → ℕ
width net ask = routing_width net.files net.tracked (question_of ask) single_plan

-- the routing and the environment that they say
abbrev pub world_by : Network → Same → List Bool → World
world_by net ask valuation = world_from net.files net.tracked (question_of ask) single_plan (truth valuation) 0

abbrev pub environment_by : Network → Same → List Bool → Environment
environment_by net ask valuation =
    environment_from net.files net.tracked (question_of ask) single_plan (truth valuation) 0

-- those of a routing in its environment
abbrev pub own_bits : Network → Same → World → Environment → List Bool
own_bits net ask world environment = routing_bits net.files net.tracked (question_of ask) single_plan world environment

abbrev pub side_bits : Network → Same → World → Environment → List Bool
side_bits net ask world environment = exactly (width net ask) (own_bits net ask world environment)

-- those of a stable routing say its shapes
abbrev pub SayShapes : Network → Same → Type 0
SayShapes net ask =
    (world : World) (environment : Environment) → IsSide net.files ask world environment →
    shape_world_from net.files net.tracked (question_of ask) single_plan (truth (own_bits net ask world environment)) 0
    ≡ shapes_of net.tracked world environment

-- in the routing of the values of its variables each node says of the fate at its place whether packets from the router
-- have it
abbrev pub SayFates : Network → Same → ℕ → List Fate → Reading → List NodeId → Type 0
SayFates net ask start fates w ids =
    (world : World) (environment : Environment) →
    shape_world_from net.files net.tracked (question_of ask) single_plan w.variable 0
    ≡ shapes_of net.tracked world environment →
    AreFateNodes w net.files world start fates ids

-- ---- of both, those of the left one first

abbrev pub left_values : Network → Same → List Bool → List Bool
left_values left ask valuation = take (width left ask) valuation

abbrev pub right_values : Network → Network → Same → List Bool → List Bool
right_values left right ask valuation = take (width right ask) (drop (width left ask) valuation)

-- ---- what stands in the terms

-- what a reading of the terms reads of the left network's nodes, and of the right one's at their places, each with
-- values of its own variables
abbrev pub left_reading : List Bool → Reading → Reading
left_reading xs w = record { variable = truth xs; node = w.node }

abbrev pub right_reading : List NodeId → List Bool → Reading → Reading
right_reading places ys w = record { variable = truth ys; node = λ i. at w (place_of places i) }

-- the world and the environment of each network read as these values of its variables say; and where the root is true,
-- so do the nodes of its fates
pub record StandBeside (left right : Network) (ask : Same) (fates : List Fate) (e : PairTerms) (xs ys : List Bool)
    (w : Reading) : Type 0 where
  pub one : StandsForWorld left.files left.tracked (question_of ask) single_plan 0 (left_reading xs w) e.one.world
      e.one.env
  pub other : StandsForWorld right.files right.tracked (question_of ask) single_plan 0 (right_reading e.places ys w)
      e.other.world e.other.env
  pub fates_of_one : at w e.root ≡ true → SayFates left ask ask.left fates (left_reading xs w) e.one.fates
  pub fates_of_other : at w e.root ≡ true →
      SayFates right ask ask.right fates (right_reading e.places ys w) e.other.fates

-- the values say a stable routing of the network, and its shapes
pub record SaysRouting (net : Network) (ask : Same) (xs : List Bool) : Type 0 where
  pub passes : is_routing net.files net.tracked (question_of ask) single_plan (truth xs) 0 ≡ true
  pub side : IsSide net.files ask (world_by net ask xs) (environment_by net ask xs)
  pub shapes : shape_world_from net.files net.tracked (question_of ask) single_plan (truth xs) 0
      ≡ shapes_of net.tracked (world_by net ask xs) (environment_by net ask xs)

-- the nodes of a network's world, environment and fates are among so many
pub record StandAmong (net : Network) (fates : List Fate) (many : ℕ) (side : Side) : Type 0 where
  pub world : whole_end side.world ≤ many
  pub environment : env_end side.env ≤ many
  pub announced : FitsNet net.files net.tracked (lens_of single_plan) side.env
  pub fates_stand : ids_end side.fates ≤ many
  pub fates_long : length side.fates ≡ length fates

-- the root stands in the terms; whatever values make it true say two stable routings; and the values of two such
-- routings make it true. The nodes of both sides stand in the terms, those of the right one by their places; worlds and
-- environments read as the values say, be they all values or given ones of each; and the values of a routing say its
-- shapes.
pub record IsPairEncoding (left right : Network) (ask : Same) (fates : List Fate) (e : PairTerms) : Type 0 where
  pub root : e.root.0 < size e.terms
  pub vars : e.terms.vars ≡ width left ask + width right ask
  pub split : e.split ≡ width left ask
  pub sound : (valuation : List Bool) → value_of e.terms.nodes valuation e.root.0 ≡ true →
      SaysRouting left ask (left_values left ask valuation)
      × SaysRouting right ask (right_values left right ask valuation)
  pub complete : (one other : World) (around about : Environment) →
      IsSide left.files ask one around → IsSide right.files ask other about →
      value_of e.terms.nodes (side_bits left ask one around ++ side_bits right ask other about) e.root.0 ≡ true
  pub one_stands : StandAmong left fates (size e.terms) e.one
  pub other_stands : StandAmong right fates (length e.places) e.other
  pub places : ids_end e.places ≤ size e.terms
  pub values : (valuation : List Bool) (w : Reading) → Reads w e.terms → Agrees w valuation e.terms.vars →
      StandBeside left right ask fates e (left_values left ask valuation) (right_values left right ask valuation) w
  pub given : (xs ys : List Bool) (w : Reading) → Reads w e.terms →
      Agrees w (exactly (width left ask) xs ++ exactly (width right ask) ys) e.terms.vars →
      StandBeside left right ask fates e xs ys w
  pub one_shapes : SayShapes left ask
  pub other_shapes : SayShapes right ask
