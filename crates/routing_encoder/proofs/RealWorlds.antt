-- A world of terms that stands for a real one.
use Rattle.std.proofs.Common.{◌≡◌, ◌∙◌, ◌*◌, List, length, ap, subst, sym}
use Rattle.ios_ast.specs.declared.file.File.{File}
use Rattle.route_record.specs.declared.Environment.{Environment}
use Rattle.route_record.specs.declared.Plan.{Plan}
use Rattle.route_record.specs.declared.World.{World}
use Rattle.route_record.specs.declared.tracked.Tracked.{Tracked}
use Rattle.bgp_equations.specs.declared.environment.SymEnv.{SymEnv}
use Rattle.plan_places.specs.Plans.{lens_of}
use Rattle.plan_places.proofs.PlaceSteps.{places-length}
use Rattle.question_lang.specs.declared.question.Question.{Question}
use Rattle.routing_worlds.specs.Worlds.{shape_world_from}
use Rattle.shape_worlds.specs.Worlds.{ShapeWorld, shapes_of}
use Rattle.sym_rib.specs.Worlds.{StandForTables}
use Rattle.sym_walk.specs.declared.breaks.SymWorld.{SymWorld}
use Rattle.sym_walk.specs.Whole.{HasSlots}
use Rattle.term_store.specs.Terms.{Reading}
use Rattle.world_variables.specs.Worlds.{places_in}
use Rattle.routing_encoder.specs.Encoded.{StandsForWorld}
use Rattle.routing_encoder.proofs.WantedSteps.{stand_read}

module _ (w : Reading) (files : List File) (tracked : Tracked) (question : Question) (plan : Plan) (world : SymWorld)
    (env : SymEnv) (real : World) (environment : Environment) (slots : HasSlots files world)
    (at_plan : world.plan ≡ plan) (stands : StandsForWorld files tracked question plan 0 w world env)
    (same : shape_world_from files tracked question plan w.variable 0 ≡ shapes_of tracked real environment) where
  long : length world.slots ≡ length (places_in files plan)
  long =
      slots ∙ ap (λ (p : Plan). length files * length (lens_of p)) at_plan
      ∙ sym (places-length (lens_of plan) (length files))

  -- its slots stand for those of the real tables
  pub stand_for : StandForTables w tracked (lens_of world.plan) (length files) world.slots real.tables
  stand_for =
      subst (λ (p : Plan). StandForTables w tracked (lens_of p) (length files) world.slots real.tables) (sym at_plan)
      (stand_read w files tracked question plan 0 real.tables (sym (ap (λ (s : ShapeWorld). s.slots) same)) world.slots
      stands.slots long)
