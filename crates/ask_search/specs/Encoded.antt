-- What is said of an ask as terms.
use Rattle.std.specs.Prelude.{◌≡◌, ℕ, ◌<◌, ◌≤◌, Bool, true, List, None, length}
use Rattle.ios_ast.specs.declared.file.File.{File}
use Rattle.plan_places.specs.Plans.{lens_of, single_plan}
use Rattle.route_record.specs.declared.Environment.{Environment}
use Rattle.route_record.specs.declared.TheConstants.{LENGTHS}
use Rattle.route_record.specs.declared.tracked.Tracked.{Tracked}
use Rattle.route_record.specs.declared.World.{World}
use Rattle.question_lang.specs.Breaking.{IsBreaking}
use Rattle.routing_encoder.specs.Opened.{routing_width}
use Rattle.bgp_equations.specs.Equations.{HaveTracked}
use Rattle.routing_worlds.specs.Worlds.{environment_from, is_routing, shape_world_from, world_from}
use Rattle.shape_worlds.specs.Worlds.{shapes_of}
use Rattle.sym_policy.specs.Held.{failures_of}
use Rattle.sym_policy.specs.Records.{prefix_of}
use Rattle.sym_walk.specs.declared.breaks.SymWorld.{SymWorld}
use Rattle.sym_walk.specs.Whole.{HasSlots, whole_end}
use Rattle.term_store.specs.Reading.{Reads}
use Rattle.term_store.specs.Terms.{Reading, Store, at, size, truth, value_of}
use Rattle.export_asks.specs.declared.ask.Ask.{Ask}
use Rattle.export_asks.specs.Exported.{is_exported}
use Rattle.export_terms.specs.Routes.{routes_at}
use Rattle.export_terms.specs.Shapes.{any_below, shape_out}
use Rattle.ask_search.specs.declared.encoding.AskTerms.{AskTerms}
use Rattle.ask_search.specs.Exporting.{IsExportable, question_of}

-- the nodes of a world of terms stand in the store; each router has a slot at each slice of the plan, and its BGP route a
-- node for each value that is tracked
pub record HasWorld (files : List File) (tracked : Tracked) (t : Store) (world : SymWorld) : Type 0 where
  pub slots : HasSlots files world
  pub nodes : whole_end world ≤ size t
  pub rows : HaveTracked tracked world.slots

-- by what a world of terms reads as a route of the ask goes out at some prefix length
abbrev pub exports_read : Tracked → List File → Ask → SymWorld → Reading → Bool
exports_read tracked files ask world w =
    any_below LENGTHS (λ len. shape_out tracked files ask (failures_of w world.net)
    (routes_at w (lens_of world.plan) (length files) world.slots len) (prefix_of w world.packet.dst len))

-- the routing of values of the variables of an ask: those of its question, with a slice at each prefix length
abbrev pub routing_passes : List File → Tracked → Ask → List Bool → Bool
routing_passes files tracked ask valuation =
    is_routing files tracked (question_of ask) single_plan (truth valuation) 0

abbrev pub world_for : List File → Tracked → Ask → List Bool → World
world_for files tracked ask valuation = world_from files tracked (question_of ask) single_plan (truth valuation) 0

abbrev pub environment_for : List File → Tracked → Ask → List Bool → Environment
environment_for files tracked ask valuation =
    environment_from files tracked (question_of ask) single_plan (truth valuation) 0

-- the routing is stable, and a route of the ask goes out at some length
pub record IsExportedBy (files : List File) (ask : Ask) (world : World) (environment : Environment) : Type 0 where
  pub breaking : IsBreaking files (question_of ask) world environment None
  pub exported : (len : ℕ) × (len < LENGTHS)
      × (is_exported files ask world.packet.dst world.failures world.tables len ≡ true)

-- The root stands in terms over the variables of the ask's question. Under each reading of them it is true only where there
-- is a router; and it says whether a route of the ask goes out at some length by the real world whose shapes the variables
-- stand for.
pub record IsExportTerm (files : List File) (tracked : Tracked) (ask : Ask) (e : AskTerms) : Type 0 where
  pub root : e.root.0 < size e.terms
  pub vars : e.terms.vars ≡ routing_width files tracked (question_of ask) single_plan
  pub some : (w : Reading) → Reads w e.terms → at w e.root ≡ true → 0 < length files
  pub value : (w : Reading) → Reads w e.terms → (world : World) (environment : Environment) →
      shape_world_from files tracked (question_of ask) single_plan w.variable 0 ≡ shapes_of tracked world environment →
      at w e.root ≡ any_below LENGTHS (is_exported files ask world.packet.dst world.failures world.tables)

-- the root stands in the terms; whatever values make it true are a routing that exports; and where there is one, some
-- values make it true
pub record IsAskEncoding (files : List File) (tracked : Tracked) (ask : Ask) (e : AskTerms) : Type 0 where
  pub root : e.root.0 < size e.terms
  pub vars : e.terms.vars ≡ routing_width files tracked (question_of ask) single_plan
  pub routing : (valuation : List Bool) → value_of e.terms.nodes valuation e.root.0 ≡ true →
      routing_passes files tracked ask valuation ≡ true
  pub sound : (valuation : List Bool) → value_of e.terms.nodes valuation e.root.0 ≡ true →
      IsExportedBy files ask (world_for files tracked ask valuation) (environment_for files tracked ask valuation)
  pub complete : IsExportable files ask →
      (valuation : List Bool) × (value_of e.terms.nodes valuation e.root.0 ≡ true)
