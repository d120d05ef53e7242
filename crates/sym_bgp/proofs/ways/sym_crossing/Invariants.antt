use Rattle.std.proofs.Common.{◌≡◌, ◌≤◌, drop}
use Rattle.std.specs.List.{find}
use Rattle.term_store.specs.Terms.{Reading, size}
use Rattle.term_store.specs.Reading.{Reads, Builds}
use Rattle.term_arith.specs.Bits.{number}
use Rattle.bgp_shapes.specs.Crossings.{crossing, is_from}
use Rattle.sym_bgp.specs.Ways.{crossing_at, crossing_end}
use Rattle.sym_bgp.proofs.ways.sym_crossing.Given as goal

abbrev pub invariant-loop-i : goal.invariant-loop-i
invariant-loop-i l = record {
  builds : Builds l.fn.terms l.terms;
  within : crossing_end l.rest ≤ size l.terms;
  value : (w : Reading) → Reads w l.terms
      → crossing_at w l.rest ≡ crossing l.session.files.now l.session.process.now l.session.neighbour.now
      l.session.end.now (find (is_from l.session.files.now l.session.end.now.router (number w l.from.nodes.items)) (drop l.i l.ends));
}
