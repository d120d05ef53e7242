use Rattle.config_lint.proofs.Places.{Ends}
use Rattle.config_lint.proofs.groups.entries_of_all.Given as goal

-- the refusals so far
abbrev pub invariant-loop-text : goal.invariant-loop-text
invariant-loop-text l = Ends l.texts l.text-index l.entries-inside.items.items
