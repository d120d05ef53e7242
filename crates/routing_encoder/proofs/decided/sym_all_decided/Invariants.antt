use Rattle.std.proofs.Common.{◌≡◌, ℕ, ◌<◌, ◌&&◌, drop}
use Rattle.term_store.specs.Terms.{Reading, at, size}
use Rattle.term_store.specs.Reading.{Reads, Builds}
use Rattle.bgp_equations.specs.Equations.{DistancesForSessions}
use Rattle.routing_worlds.specs.Worlds.{shape_world_from}
use Rattle.routing_encoder.specs.Decided.{are_heard}
use Rattle.routing_encoder.specs.Opened.{ReadsAs, StandsIn}
use Rattle.routing_encoder.specs.Shapes.{ReadAsShapes}
use Rattle.routing_encoder.proofs.decided.sym_all_decided.Given as goal

-- those so far hold and those that are left do, exactly where all do
abbrev pub invariant-loop-at : goal.invariant-loop-at
invariant-loop-at l = record {
  builds : Builds l.fn.terms l.terms;
  stands : StandsIn l.net.files l.net.tracked l.question l.plan l.terms l.made.routing;
  within : l.all.0 < size l.terms;
  value : (w : Reading) → Reads w l.terms → (from : ℕ) →
      ReadsAs l.net.files l.net.tracked l.question l.plan from w l.made.routing →
      ReadAsShapes l.net.files l.net.tracked l.question l.plan from w l.made.slots →
      DistancesForSessions w l.net.files l.made.routing.net →
      (at w l.all && are_heard l.net.tracked l.net.files l.question.packets.dst
      (shape_world_from l.net.files l.net.tracked l.question l.plan w.variable from)
      (drop l.at l.made.routing.frame.places))
      ≡ are_heard l.net.tracked l.net.files l.question.packets.dst
      (shape_world_from l.net.files l.net.tracked l.question l.plan w.variable from)
      l.made.routing.frame.places;
}
