use Rattle.std.proofs.Common.{◌≡◌, ◌<◌}
use Rattle.term_store.specs.Terms.{Reading, at, size}
use Rattle.term_store.specs.Reading.{Reads, Builds}
use Rattle.sym_policy.specs.Held.{failures_of}
use Rattle.sym_policy.specs.Records.{prefix_of}
use Rattle.export_terms.specs.Routes.{routes_read}
use Rattle.export_terms.specs.Shapes.{any_below, shape_out}
use Rattle.export_terms.proofs.lengths.sym_out.Given as goal

-- some length so far
abbrev pub invariant-loop-len : goal.invariant-loop-len
invariant-loop-len l = record {
  builds : Builds l.fn.terms l.terms;
  within : l.any.0 < size l.terms;
  value : (w : Reading) → Reads w l.terms → at w l.any
      ≡ any_below l.len (λ len. shape_out l.net.tracked l.net.files l.ask (failures_of w l.sym) (routes_read w l.fn.tables len)
      (prefix_of w l.dst len));
}
