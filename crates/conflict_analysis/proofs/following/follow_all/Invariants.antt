use Rattle.std.proofs.Common.{◌≡◌, ◌+◌, ◌≤◌, length}
use Rattle.std.specs.Prelude.{vec_len, vec_capacity}
use Rattle.conflict_analysis.specs.Lessons.{marked, IsOnWay, IsSecond}
use Rattle.conflict_analysis.proofs.following.follow_all.Given as goal

abbrev pub invariant-loop-at : goal.invariant-loop-at
invariant-loop-at l = record {
  way :
      IsOnWay l.arena l.trail.lits.items l.trail.levels.items l.top (length l.trail.lits.items)
      (marked l.fn.marks) l.fn.clause.items l.fn.chain.items
      → IsOnWay l.arena l.trail.lits.items l.trail.levels.items l.top l.at (marked l.marks) l.clause.items
      l.chain.items;
  second : IsSecond l.trail.lits.items l.trail.levels.items l.clause.items l.back;
  count : vec_len l.clause + vec_len l.chain + l.at ≤ length l.trail.lits.items + 1;
  named : 1 ≤ vec_len l.chain;
  clause_room : vec_capacity l.clause ≡ vec_capacity l.fn.clause;
  chain_room : vec_capacity l.chain ≡ vec_capacity l.fn.chain;
}
