use Rattle.std.proofs.Common.{◌≡◌, ℕ, ◌<◌, true}
use Rattle.route_record.specs.declared.Tables.{Tables}
use Rattle.term_store.specs.Terms.{Reading, at, size}
use Rattle.term_store.specs.Reading.{Reads, Builds}
use Rattle.routing_worlds.specs.Worlds.{opens_from, shape_world_from}
use Rattle.routing_encoder.specs.Opened.{ReadsAs, StandsIn}
use Rattle.routing_encoder.specs.Shapes.{ReadAsShapes}
use Rattle.routing_encoder.specs.Wanted.{HasShapes, are_wanted}
use Rattle.routing_encoder.proofs.following.sym_all_following.Given as goal

-- so it is at the lengths so far
abbrev pub invariant-loop-len : goal.invariant-loop-len
invariant-loop-len l = record {
  builds : Builds l.fn.terms l.terms;
  stands : StandsIn l.world.net.now.files l.world.net.now.tracked l.world.question.now l.world.plan.now l.terms
      l.world.made.now.routing;
  within : l.all.0 < size l.terms;
  value : (w : Reading) → Reads w l.terms → (from : ℕ) (real : Tables) →
      ReadsAs l.world.net.now.files l.world.net.now.tracked l.world.question.now l.world.plan.now from w
      l.world.made.now.routing →
      ReadAsShapes l.world.net.now.files l.world.net.now.tracked l.world.question.now l.world.plan.now from w
      l.world.made.now.slots →
      HasShapes l.world.net.now.tracked real (shape_world_from l.world.net.now.files l.world.net.now.tracked
      l.world.question.now l.world.plan.now w.variable from) →
      are_wanted l.world.net.now.files l.world.question.now.packets.dst
      (shape_world_from l.world.net.now.files l.world.net.now.tracked l.world.question.now l.world.plan.now w.variable
      from) real l.world.made.now.routing.frame.places (opens_from l.world.net.now.files l.world.net.now.tracked
      l.world.question.now l.world.plan.now w.variable from) ≡ true → at w l.all ≡ true;
}
