use Rattle.std.proofs.Common.{◌≡◌, ℕ, drop}
use Rattle.std.specs.BTreeSet.{contains}
use Rattle.std.specs.Ordering.{nat_cmp}
use Rattle.resolution_check.specs.Earned.{has_var, vars_differ}
use Rattle.cnf_blaster.proofs.proper.are_distinct.Given as goal

abbrev pub invariant-loop-i : goal.invariant-loop-i
invariant-loop-i l = record {
  distinct : l.distinct ≡ vars_differ (drop l.i l.lits);
  seen : (x : ℕ) → contains nat_cmp l.seen x ≡ has_var (drop l.i l.lits) x;
}
