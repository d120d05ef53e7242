use Rattle.std.proofs.Common.{◌≡◌, ◌+◌, take}
use Rattle.clause_arena.specs.Held.{clauses}
use Rattle.conflict_analysis.specs.Steps.{IsTrail}
use Rattle.watched_search.specs.Starts.{AreBelow, IsGround, OnesHold, numbered_from}
use Rattle.watched_search.proofs.starting.hold_inputs.Given as goal

abbrev pub invariant-loop-at : goal.invariant-loop-at
invariant-loop-at l = record {
  vars : l.assigned.vars ≡ l.arena.vars;
  arena_vars : l.arena.vars ≡ l.fn.arena.vars;
  trail : IsTrail l.arena l.assigned.vars l.assigned.lits l.assigned.levels l.assigned.reasons;
  ground : IsGround l.arena l.assigned.levels;
  ones : OnesHold l.arena l.assigned.lits;
  clauses : clauses l.arena ≡ numbered_from 1 (take l.at l.inputs);
  above : AreBelow l.arena (l.at + 1);
}
