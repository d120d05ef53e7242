use Rattle.std.proofs.Common.{◌≡◌, take}
use Rattle.std.specs.String.{string_bytes}
use Rattle.resolution_check.specs.Text.{log_text}
use Rattle.cdcl_search.specs.Outcomes.{input_entries}
use Rattle.cdcl_search.proofs.logging.inputs_text.Given as goal

-- the lines so far
abbrev pub invariant-loop-at : goal.invariant-loop-at
invariant-loop-at l = string_bytes l.text ≡ log_text (input_entries l.first (take l.at l.clauses))
