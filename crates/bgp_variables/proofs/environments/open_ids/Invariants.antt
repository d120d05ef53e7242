use Rattle.std.proofs.Common.{◌≡◌, ◌≤◌, ◌+◌, ◌*◌, ◌-◌, ◌++◌, All, length, map}
use Rattle.term_store.specs.Terms.{Reading, size}
use Rattle.term_store.specs.Reading.{Reads, Grows}
use Rattle.term_arith.specs.Bits.{ids_end}
use Rattle.sym_policy.specs.Records.{address_of}
use Rattle.sym_rib.specs.Into.{list_end}
use Rattle.bgp_variables.specs.Environments.{addresses_from}
use Rattle.bgp_variables.proofs.environments.open_ids.Given as goal

abbrev pub invariant-loop-i : goal.invariant-loop-i
invariant-loop-i l = record {
  grows : Grows l.fn.terms l.terms;
  within : list_end (λ b. ids_end b.nodes.items) l.made ≤ size l.terms;
  wide : All (λ b. length b.nodes.items ≡ 32) l.made;
  length_is : length l.made ≡ l.i;
  vars : l.terms.vars ≡ l.fn.terms.vars + 32 * l.i;
  value : (w : Reading) → Reads w l.terms → map (address_of w) l.made
      ++ addresses_from (l.count - l.i) w.variable l.terms.vars
      ≡ addresses_from l.count w.variable l.fn.terms.vars;
}
