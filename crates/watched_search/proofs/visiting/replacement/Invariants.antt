use Rattle.std.proofs.Common.{◌≡◌, ℕ, ◌<◌, ◌≤◌, true}
use Rattle.resolution_check.specs.Trails.{fails}
use Rattle.clause_arena.specs.Links.{word}
use Rattle.watched_search.specs.Watches.{literal}
use Rattle.watched_search.proofs.visiting.replacement.Given as goal

abbrev pub invariant-loop-at : goal.invariant-loop-at
invariant-loop-at l =
    (k : ℕ) → 2 ≤ k → k < l.at → k < word l.arena.words l.clause.0
    → fails l.assigned.lits (literal l.arena l.clause.0 k) ≡ true
