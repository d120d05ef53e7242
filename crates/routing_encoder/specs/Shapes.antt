-- Slots as terms that read as those of a world by shapes.
use Rattle.std.specs.Prelude.{◌≡◌, ℕ, ◌<◌, true, List, length, option_map}
use Rattle.ios_ast.specs.declared.file.File.{File}
use Rattle.route_record.specs.declared.Plan.{Plan}
use Rattle.route_record.specs.declared.TheConstants.{LENGTHS}
use Rattle.route_record.specs.declared.tracked.Tracked.{Tracked}
use Rattle.plan_places.specs.Places.{has_place, item_at}
use Rattle.question_lang.specs.declared.question.Question.{Question}
use Rattle.term_store.specs.Terms.{Reading}
use Rattle.sym_rib.specs.declared.slots.SymSlot.{SymSlot}
use Rattle.bgp_equations.specs.Equations.{slot_read}
use Rattle.shape_worlds.specs.Worlds.{slots_for}
use Rattle.world_variables.specs.Worlds.{places_in}
use Rattle.routing_worlds.specs.Worlds.{shape_world_from}

-- each slot at a place of the plan reads as the slot that the world of the variables from one on has there
abbrev pub ReadAsShapes : List File → Tracked → Question → Plan → ℕ → Reading → List SymSlot → Type 0
ReadAsShapes files tracked question plan from w slots =
    (router len : ℕ) → router < length files → len < LENGTHS →
    has_place (places_in files plan) router len ≡ true →
    option_map (slot_read w) (item_at (places_in files plan) slots router len)
    ≡ slots_for (shape_world_from files tracked question plan w.variable from) len router
