use Rattle.std.proofs.Common.{◌≡◌, ◌≤◌, length}
use Rattle.conflict_analysis.specs.Steps.{IsTrail}
use Rattle.watched_search.specs.Trails.{last_level}
use Rattle.watched_search.specs.Watches.{Extends, IsKept, IsSameView}
use Rattle.watched_search.proofs.walking.propagate.Given as goal

abbrev pub invariant-loop-at : goal.invariant-loop-at
invariant-loop-at l = record {
  vars : l.assigned.vars ≡ l.arena.vars;
  view : IsSameView l.fn.arena l.arena;
  trail : IsTrail l.arena l.assigned.vars l.assigned.lits l.assigned.levels l.assigned.reasons;
  kept : IsKept l.arena l.assigned.lits l.assigned.levels l.at;
  above : l.from ≤ l.at;
  within : l.at ≤ length l.assigned.lits;
  level : last_level l.assigned.levels ≡ last_level l.fn.assigned.levels;
  extends : Extends l.fn.assigned.lits l.assigned.lits;
}
