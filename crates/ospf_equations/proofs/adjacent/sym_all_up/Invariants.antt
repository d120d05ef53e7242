use Rattle.std.proofs.Common.{◌≡◌, ◌≤◌, ◌++◌, drop, map}
use Rattle.sym_policy.specs.Held.{failures_of}
use Rattle.term_store.specs.Terms.{Reading, size}
use Rattle.term_store.specs.Reading.{Reads, Builds}
use Rattle.ospf_equations.specs.Adjacent.{ups_end}
use Rattle.ospf_equations.specs.Reached.{up_in, up_read}
use Rattle.ospf_equations.proofs.adjacent.sym_all_up.Given as goal

-- those so far, with those that are left, are all
abbrev pub invariant-loop-a : goal.invariant-loop-a
invariant-loop-a l = record {
  builds : Builds l.fn.terms l.terms;
  within : ups_end l.made ≤ size l.terms;
  value : (w : Reading) → Reads w l.terms → map (up_read w) l.made
      ++ map (up_in l.net.files (failures_of w l.sym)) (drop l.a-index l.adjacencies)
      ≡ map (up_in l.net.files (failures_of w l.sym)) l.adjacencies;
}
