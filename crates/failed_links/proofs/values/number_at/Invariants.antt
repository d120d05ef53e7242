use Rattle.std.proofs.Common.{◌≡◌, ◌+◌, ◌-◌, ◌^◌, ◌<◌}
use Rattle.term_store.specs.Terms.{truth}
use Rattle.failed_links.specs.Rows.{number_from}
use Rattle.failed_links.proofs.values.number_at.Given as goal

abbrev pub invariant-loop-i : goal.invariant-loop-i
invariant-loop-i l = record {
  value : l.number ≡ number_from (truth l.values) (l.from + l.i) (l.width - l.i);
  small : l.number < 2 ^ (l.width - l.i);
}
