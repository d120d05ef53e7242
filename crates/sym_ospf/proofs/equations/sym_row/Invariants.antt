use Rattle.std.proofs.Common.{◌≡◌, ◌<◌}
use Rattle.term_store.specs.Terms.{Reading, at, size}
use Rattle.term_store.specs.Reading.{Reads, Builds}
use Rattle.mw_text.specs.Members.{all_below}
use Rattle.sym_ospf.specs.Rows.{equation}
use Rattle.sym_ospf.proofs.equations.sym_row.Given as goal

abbrev pub invariant-loop-k : goal.invariant-loop-k
invariant-loop-k l = record {
  builds : Builds l.fn.terms l.terms;
  within : l.all.0 < size l.terms;
  value : (w : Reading) → Reads w l.terms → at w l.all ≡ all_below (equation w l.net.files l.sym l.router) l.k;
}
