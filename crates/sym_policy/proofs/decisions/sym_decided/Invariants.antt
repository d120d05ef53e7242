use Rattle.std.proofs.Common.{◌≡◌, ◌≤◌, drop}
use Rattle.term_store.specs.Terms.{Reading, size}
use Rattle.term_store.specs.Reading.{Reads, Builds}
use Rattle.sym_policy.specs.Order.{entries_of}
use Rattle.sym_policy.specs.Records.{prefix_of}
use Rattle.sym_policy.specs.Routes.{route_at, made_at, made_end, HasRows}
use Rattle.route_shapes.specs.Shapes.{shape_decided}
use Rattle.sym_policy.proofs.decisions.sym_decided.Given as goal

abbrev pub invariant-loop-i : goal.invariant-loop-i
invariant-loop-i l = record {
  builds : Builds l.fn.terms l.terms;
  within : made_end l.rest ≤ size l.terms;
  rows : HasRows l.grounds.tracked.now l.rest.route;
  value : (w : Reading) → Reads w l.terms
      → made_at w l.rest
      ≡ shape_decided l.grounds.policies.now l.grounds.tracked.now (prefix_of w l.grounds.dst.now l.grounds.len)
      l.external (route_at w l.route) (entries_of (drop l.i l.entries));
}
