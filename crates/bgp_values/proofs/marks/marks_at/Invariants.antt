use Rattle.std.proofs.Common.{◌≡◌, ◌+◌, ◌-◌, ◌^◌, ◌<◌, drop, length}
use Rattle.term_store.specs.Terms.{truth}
use Rattle.route_record.specs.Shape.{marked_number}
use Rattle.bgp_variables.specs.Marks.{marks_from, marks_width}
use Rattle.bgp_values.proofs.marks.marks_at.Given as goal

-- where the variables of the marks read so far begin, and what they say
abbrev pub invariant-loop-i : goal.invariant-loop-i
invariant-loop-i l =
    (l.end + marks_width (drop l.i l.mays) ≡ l.fn.from + marks_width l.mays)
    × (l.set ≡ marked_number (marks_from (drop l.i l.mays) (truth l.values) l.end))
    × (l.set < 2 ^ (length l.mays - l.i))
