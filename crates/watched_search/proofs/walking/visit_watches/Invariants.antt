use Rattle.std.proofs.Common.{◌≡◌, ◌≤◌, true, length}
use Rattle.std.specs.Prelude.{IfSome}
use Rattle.resolution_check.specs.Trails.{fails}
use Rattle.clause_arena.specs.Held.{code_of}
use Rattle.clause_arena.specs.Watched.{Stands, head, left, place_or}
use Rattle.conflict_analysis.specs.Steps.{IsTrail}
use Rattle.watched_search.specs.Trails.{last_level}
use Rattle.watched_search.specs.Watches.{Extends, IsKept, IsSameView, IsWalked}
use Rattle.watched_search.proofs.walking.visit_watches.Given as goal

abbrev pub decreases-loop-at : goal.decreases-loop-at
decreases-loop-at l = left l.arena l.before (code_of l.fn.lit)

abbrev pub invariant-loop-at : goal.invariant-loop-at
invariant-loop-at l = record {
  vars : l.assigned.vars ≡ l.arena.vars;
  view : IsSameView l.fn.arena l.arena;
  trail : IsTrail l.arena l.assigned.vars l.assigned.lits l.assigned.levels l.assigned.reasons;
  kept : IsKept l.arena l.assigned.lits l.assigned.levels l.looked_at;
  within : l.looked_at ≤ length l.assigned.lits;
  is_false : fails l.assigned.lits l.fn.lit ≡ true;
  level : last_level l.assigned.levels ≡ last_level l.fn.assigned.levels;
  extends : Extends l.fn.assigned.lits l.assigned.lits;
  at_head : place_or l.at ≡ head l.arena l.before (code_of l.fn.lit);
  stands : IfSome l.at (Stands l.arena (code_of l.fn.lit));
  walked : IsWalked l.arena l.assigned.lits l.before (code_of l.fn.lit);
}
