-- What is said of a question as a formula.
use Rattle.std.specs.Prelude.{◌≡◌, ℕ, ◌<◌, ◌≤◌, Bool, true, List, Option, map, option_map}
use Rattle.ios_ast.specs.declared.file.File.{File}
use Rattle.route_record.specs.declared.Environment.{Environment}
use Rattle.route_record.specs.declared.Plan.{Plan}
use Rattle.route_record.specs.declared.tracked.Tracked.{Tracked}
use Rattle.route_record.specs.declared.World.{World}
use Rattle.net_parts.specs.Stable.{Stable}
use Rattle.question_lang.specs.declared.question.Question.{Question}
use Rattle.question_lang.specs.declared.walk.Walk.{Walk}
use Rattle.question_lang.specs.Breaking.{Breaks}
use Rattle.sliced_routings.specs.Plans.{IsFittingPlan}
use Rattle.sliced_routings.specs.Slicing.{IsSlicedBreak}
use Rattle.plan_places.specs.Plans.{lens_of}
use Rattle.term_store.specs.declared.NodeId.{NodeId}
use Rattle.term_store.specs.Reading.{Reads}
use Rattle.term_store.specs.Terms.{Reading, Store, at, size, truth, value_of}
use Rattle.sym_policy.specs.Held.{failures_of, internal_route}
use Rattle.sym_policy.specs.Packets.{packet_of}
use Rattle.sym_walk.specs.declared.breaks.SymWorld.{SymWorld}
use Rattle.sym_walk.specs.Whole.{HasSlots, whole_end}
use Rattle.bgp_equations.specs.declared.environment.SymEnv.{SymEnv}
use Rattle.bgp_equations.specs.Environments.{FitsNet, env_end, environment_read}
use Rattle.bgp_equations.specs.Equations.{HaveTracked}
use Rattle.igp_variables.specs.Rows.{distances, rows_bits, rows_from}
use Rattle.shape_worlds.specs.Worlds.{shapes_of}
use Rattle.routing_worlds.specs.Worlds.{HasWordNetwork, environment_from, is_routing, shape_world_from}
use Rattle.routing_worlds.specs.Worlds.{world_bits, world_from, worlds_end}
use Rattle.routing_encoder.specs.declared.encoding.Encoding.{Encoding}
use Rattle.routing_encoder.specs.Opened.{routing_width}
use Rattle.routing_encoder.specs.Shapes.{ReadAsShapes}

-- the nodes of a world of terms stand in the store; each router has a slot at each slice of the plan, and its BGP route a
-- node for each value that is tracked
pub record HasWorld (files : List File) (tracked : Tracked) (t : Store) (world : SymWorld) : Type 0 where
  pub slots : HasSlots files world
  pub nodes : whole_end world ≤ size t
  pub rows : HaveTracked tracked world.slots

-- the nodes of what comes from outside stand in the store: there is an announcement of each external peer at each length
-- of the plan
pub record HasEnvironment (files : List File) (tracked : Tracked) (plan : Plan) (t : Store) (env : SymEnv) : Type 0 where
  pub nodes : env_end env ≤ size t
  pub fits : FitsNet files tracked (lens_of plan) env

-- a symbolic world and environment read as the world by shapes that the variables from one on stand for
pub record StandsForWorld (files : List File) (tracked : Tracked) (question : Question) (plan : Plan) (from : ℕ)
    (w : Reading) (world : SymWorld) (env : SymEnv) : Type 0 where
  pub packet : packet_of w world.packet ≡ (shape_world_from files tracked question plan w.variable from).packet
  pub failures : failures_of w world.net ≡ (shape_world_from files tracked question plan w.variable from).failures
  pub slots : ReadAsShapes files tracked question plan from w world.slots
  pub environment : environment_read w files (lens_of plan) env
      ≡ (shape_world_from files tracked question plan w.variable from).environment

-- the variables of the interior distances say these
abbrev pub SayDistances : List File → Tracked → Question → Plan → World → (ℕ → Bool) → ℕ → Type 0
SayDistances files tracked question plan world v from =
    rows_from files v (worlds_end files tracked question plan from)
    ≡ map (option_map internal_route) (distances files world.failures)

-- the root is true exactly where the variables from one on are a routing that breaks the question
pub record IsRoot (files : List File) (tracked : Tracked) (question : Question) (plan : Plan) (from : ℕ) (w : Reading)
    (root : NodeId) : Type 0 where
  pub sound : HasWordNetwork files tracked question → at w root ≡ true →
      (is_routing files tracked question plan w.variable from ≡ true)
      × ((walk : Option Walk) × Breaks files (world_from files tracked question plan w.variable from) question.kind walk)
  pub complete : HasWordNetwork files tracked question → (world : World) (environment : Environment)
      (walk : Option Walk) →
      shape_world_from files tracked question plan w.variable from ≡ shapes_of tracked world environment →
      is_routing files tracked question plan w.variable from ≡ true →
      SayDistances files tracked question plan world w.variable from →
      Stable files world.packet.dst world.failures environment world.tables → Breaks files world question.kind walk →
      at w root ≡ true

-- the values of all variables for a world in its environment: its own, and those of the interior distances
abbrev pub routing_bits : List File → Tracked → Question → Plan → World → Environment → List Bool
routing_bits files tracked question plan world environment =
    world_bits files tracked question plan world environment (rows_bits files world.failures)

-- the root stands in the terms; the world and the environment of terms stand for what the variables say; where the plan
-- fits the files, the world and the environment of whatever values make the root true break the question and stand at the
-- slices of the plan alone; and the bits of each such routing make the root true, and say its shapes
pub record IsEncoding (files : List File) (tracked : Tracked) (question : Question) (e : Encoding) : Type 0 where
  pub root : e.root.0 < size e.terms
  pub vars : e.terms.vars ≡ routing_width files tracked question e.world.plan
  pub world : (w : Reading) → Reads w e.terms →
      StandsForWorld files tracked question e.world.plan 0 w e.world e.env
  pub sound : IsFittingPlan files e.world.plan → (valuation : List Bool) →
      value_of e.terms.nodes valuation e.root.0 ≡ true →
      (is_routing files tracked question e.world.plan (truth valuation) 0 ≡ true) × ((walk : Option Walk)
      × IsSlicedBreak files question e.world.plan (world_from files tracked question e.world.plan (truth valuation) 0)
      (environment_from files tracked question e.world.plan (truth valuation) 0) walk)
  pub complete : (world : World) (environment : Environment) (walk : Option Walk) →
      IsSlicedBreak files question e.world.plan world environment walk →
      value_of e.terms.nodes (routing_bits files tracked question e.world.plan world environment) e.root.0 ≡ true
  pub shapes : (world : World) (environment : Environment) (walk : Option Walk) →
      IsSlicedBreak files question e.world.plan world environment walk →
      shape_world_from files tracked question e.world.plan
      (truth (routing_bits files tracked question e.world.plan world environment)) 0
      ≡ shapes_of tracked world environment
