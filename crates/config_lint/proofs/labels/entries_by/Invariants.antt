use Rattle.std.proofs.Common.{◌≡◌, map, take}
use Rattle.config_lint.specs.Labels.{entry_by}
use Rattle.config_lint.proofs.labels.entries_by.Given as goal

-- the refusals so far
abbrev pub invariant-loop-refused : goal.invariant-loop-refused
invariant-loop-refused l =
    l.entries-inside.items.items ≡ map (entry_by l.name l.lines l.places) (take l.refused-index l.told)
