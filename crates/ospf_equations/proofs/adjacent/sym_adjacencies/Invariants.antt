use Rattle.std.proofs.Common.{◌≡◌, ◌≤◌, ◌++◌, drop}
use Rattle.mw_text.specs.declared.address.Prefix.{Prefix}
use Rattle.route_record.specs.declared.Tables.{Tables}
use Rattle.sym_policy.specs.Held.{failures_of}
use Rattle.term_store.specs.Terms.{Reading, size}
use Rattle.term_store.specs.Reading.{Reads, Builds}
use Rattle.ospf_equations.specs.Adjacent.{offers_read, ups_end}
use Rattle.ospf_equations.specs.Equations.{offers_by}
use Rattle.ospf_equations.proofs.adjacent.sym_adjacencies.Given as goal

-- what is offered over those so far, with what is offered over the ones that are left, is all
abbrev pub invariant-loop-a : goal.invariant-loop-a
invariant-loop-a l = record {
  builds : Builds l.fn.terms l.terms;
  within : ups_end l.made ≤ size l.terms;
  value : (w : Reading) → Reads w l.terms → (tables : Tables) (p : Prefix) → offers_read w tables p l.made
      ++ offers_by l.net.files (failures_of w l.sym) tables l.router p (drop l.a-index l.adjacencies)
      ≡ offers_by l.net.files (failures_of w l.sym) tables l.router p l.adjacencies;
}
