use Rattle.std.proofs.Common.{◌≡◌}
use Rattle.sym_policy.specs.Held.{positions}
use Rattle.term_store.specs.Terms.{truth}
use Rattle.failed_links.specs.Rows.{row}
use Rattle.failed_links.proofs.failures.failed_among.Given as goal

abbrev pub invariant-loop-link : goal.invariant-loop-link
invariant-loop-link l = l.failed ≡ positions 0 (row (truth l.values) l.from l.link)
