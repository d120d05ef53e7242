use Rattle.std.proofs.Common.{length, rules, subst, ap, ◌∙◌}
use Rattle.std.specs.Prelude.{All, IfSome, Option}
use Rattle.slot_places.specs.declared.rooms.Room.{Room}
use Rattle.plan_places.specs.Places.{places_of}
use Rattle.world_variables.specs.Unknowns.{HasWords}
use Rattle.routing_encoder.proofs.FrameSteps.{frame_is}
use Rattle.routing_encoder.proofs.frame.frame_of.Goals as goal

pub returns-clause-frame : goal.returns-clause-frame
returns-clause-frame c =
    frame_is c.args.net.now.files c.args.net.now.tracked c.args.plan.now _ c.in_ok-lens.ensures
    (c.in_ok-places.ensures ∙ ap (λ files. places_of c.args.plan.now (length files)) c.routers.ensures.all)
    c.in_ok-rooms.ensures
    (subst (All (λ (o : Option Room). IfSome o (λ r. HasWords r.metric))) c.as_slice.ensures c.read_rooms.ensures)
    (search rules) (search rules)
