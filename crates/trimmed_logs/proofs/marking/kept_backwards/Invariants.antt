use Rattle.std.proofs.Common.{drop, map}
use Rattle.std.specs.Ordering.{nat_cmp}
use Rattle.std.specs.BTreeSet.{contains}
use Rattle.trimmed_logs.specs.Kept.{IsFound}
use Rattle.trimmed_logs.proofs.marking.kept_backwards.Given as goal

abbrev pub invariant-loop-i : goal.invariant-loop-i
invariant-loop-i l =
    IsFound (λ id. contains nat_cmp l.marks id) (map (λ e. e.now) l.found.items) l.last (drop l.i l.before)
