use Rattle.std.proofs.Common.{◌≡◌, ◌+◌, ◌≤◌, drop}
use Rattle.bgp_variables.specs.Marks.{marks_width}
use Rattle.bgp_values.proofs.marks.marks_size.Given as goal

-- what is counted, and what the marks from here on have
abbrev pub invariant-loop-may : goal.invariant-loop-may
invariant-loop-may l =
    (l.size + marks_width (drop l.may-index l.mays) ≡ marks_width l.mays) × (l.size ≤ l.may-index)
