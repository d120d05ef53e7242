use Rattle.std.proofs.Common.{◌≡◌, ◌<◌, false, drop}
use Rattle.std.specs.List.{find}
use Rattle.std.specs.Option.{option_map_or}
use Rattle.term_store.specs.Terms.{Reading, at, size}
use Rattle.term_store.specs.Reading.{Reads, Builds}
use Rattle.term_arith.specs.Bits.{number}
use Rattle.bgp_shapes.specs.Crossings.{is_from}
use Rattle.export_terms.specs.Routes.{node_in}
use Rattle.export_terms.specs.Shapes.{leads_to}
use Rattle.export_terms.proofs.tracing.sym_learnt_over.Given as goal

-- the ends from this place on
abbrev pub invariant-loop-i : goal.invariant-loop-i
invariant-loop-i l = record {
  builds : Builds l.fn.terms l.terms;
  within : l.rest.0 < size l.terms;
  value : (w : Reading) → Reads w l.terms → at w l.rest
      ≡ option_map_or (leads_to l.step.files.now l.step.peer.now (node_in w l.step.next.now))
      (find (is_from l.step.files.now l.router (number w l.from.nodes.items)) (drop l.i l.step.ends.now)) false;
}
