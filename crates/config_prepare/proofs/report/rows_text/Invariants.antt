use Rattle.std.proofs.Common.{◌≡◌, ◌++◌, drop}
use Rattle.config_prepare.specs.Prepared.{rows_from}
use Rattle.config_prepare.proofs.report.rows_text.Given as goal

-- the rows so far, and the kinds that are left
abbrev pub invariant-loop-at : goal.invariant-loop-at
invariant-loop-at l =
    l.text-inside.items.items ++ rows_from l.marks l.at (drop l.at l.kinds) ≡ rows_from l.marks 0 l.kinds
