use Rattle.std.proofs.Common.{◌≡◌, ◌≤◌, ◌+◌, ◌++◌, drop, length}
use Rattle.term_store.specs.Terms.{Reading, size}
use Rattle.term_store.specs.Reading.{Reads, Grows}
use Rattle.term_arith.specs.Bits.{bits, ids_end}
use Rattle.bgp_variables.specs.Marks.{marks_from, marks_width}
use Rattle.bgp_variables.proofs.marks.open_marks.Given as goal

abbrev pub invariant-loop-can : goal.invariant-loop-can
invariant-loop-can l = record {
  grows : Grows l.fn.terms l.terms;
  within : ids_end l.nodes ≤ size l.terms;
  width : length l.nodes ≡ l.can-index;
  vars : l.terms.vars + marks_width (drop l.can-index l.may) ≡ l.fn.terms.vars + marks_width l.may;
  value : (w : Reading) → Reads w l.terms → bits w l.nodes ++ marks_from (drop l.can-index l.may) w.variable l.terms.vars
      ≡ marks_from l.may w.variable l.fn.terms.vars;
}
