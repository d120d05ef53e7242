use Rattle.std.proofs.Common.{◌≡◌, ◌++◌, drop}
use Rattle.config_prepare.specs.Places.{at_start}
use Rattle.config_lint.specs.Labels.{places_from}
use Rattle.config_lint.proofs.labels.places_of.Given as goal

-- the places so far, and the lines that are left
abbrev pub invariant-loop-line : goal.invariant-loop-line
invariant-loop-line l =
    l.places-inside.items.items ++ places_from l.place (drop l.line-index l.lines) ≡ places_from at_start l.lines
