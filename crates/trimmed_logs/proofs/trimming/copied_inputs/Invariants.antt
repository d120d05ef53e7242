use Rattle.std.proofs.Common.{◌≡◌, take}
use Rattle.trimmed_logs.specs.Trimmed.{input_entries}
use Rattle.trimmed_logs.proofs.trimming.copied_inputs.Given as goal

-- the inputs so far
abbrev pub invariant-loop-entry : goal.invariant-loop-entry
invariant-loop-entry l = l.inputs.items ≡ input_entries (take l.entry-index l.entries)
