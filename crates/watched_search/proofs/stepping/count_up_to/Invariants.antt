use Rattle.std.proofs.Common.{ℕ, ◌<◌, ◌≤◌, length}
use Rattle.clause_arena.specs.Links.{word}
use Rattle.watched_search.proofs.stepping.count_up_to.Given as goal

abbrev pub invariant-loop-at : goal.invariant-loop-at
invariant-loop-at l = (j : ℕ) → l.at ≤ j → j < length l.levels → l.level < word l.levels j
