use Rattle.std.proofs.Common.{◌≡◌, ◌++◌, drop}
use Rattle.config_lint.specs.Linted.{groups_from}
use Rattle.config_lint.proofs.groups.groups_text.Given as goal

-- the groups so far, and the refusals that are left
abbrev pub invariant-loop-at : goal.invariant-loop-at
invariant-loop-at l =
    l.text ++ groups_from l.entries l.at (drop l.at l.entries) ≡ groups_from l.entries 0 l.entries
