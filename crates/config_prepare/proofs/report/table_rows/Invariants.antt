use Rattle.std.proofs.Common.{◌≡◌, take}
use Rattle.std.specs.List.{flat_map}
use Rattle.config_prepare.specs.Prepared.{table_row}
use Rattle.config_prepare.proofs.report.table_rows.Given as goal

-- the rows so far
abbrev pub invariant-loop-kind : goal.invariant-loop-kind
invariant-loop-kind l = l.text-inside.items.items ≡ flat_map table_row (take l.kind-index l.kinds)
