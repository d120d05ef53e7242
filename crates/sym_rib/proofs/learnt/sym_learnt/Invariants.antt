use Rattle.std.proofs.Common.{◌≡◌, ◌<◌, false, drop}
use Rattle.std.specs.List.{find}
use Rattle.std.specs.Option.{option_map_or}
use Rattle.term_store.specs.Terms.{Reading, at, size}
use Rattle.term_store.specs.Reading.{Reads, Builds}
use Rattle.term_arith.specs.Bits.{number}
use Rattle.bgp_shapes.specs.Crossings.{is_from}
use Rattle.sym_rib.specs.Sources.{is_of_kind}
use Rattle.sym_rib.proofs.learnt.sym_learnt.Given as goal

abbrev pub invariant-loop-i : goal.invariant-loop-i
invariant-loop-i l = record {
  builds : Builds l.fn.terms l.terms;
  within : l.rest.0 < size l.terms;
  value : (w : Reading) → Reads w l.terms
      → at w l.rest
      ≡ option_map_or (is_of_kind l.internal)
      (find (is_from l.net.files l.router (number w l.from.nodes.items)) (drop l.i l.ends))
      false;
}
