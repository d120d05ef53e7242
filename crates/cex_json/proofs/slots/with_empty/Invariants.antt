use Rattle.std.proofs.Common.{◌≡◌, ◌++◌}
use Rattle.std.specs.Prelude.{replicate}
use Rattle.cex_json.specs.Entries.{empty_slot}
use Rattle.cex_json.proofs.slots.with_empty.Given as goal

-- the slots so far are those at first and as many empty ones
abbrev pub invariant-loop-made : goal.invariant-loop-made
invariant-loop-made l = l.slots-inside.items.items ≡ l.fn.slots ++ replicate l.made empty_slot
