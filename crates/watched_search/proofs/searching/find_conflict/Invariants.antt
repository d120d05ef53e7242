use Rattle.std.proofs.Common.{◌≡◌, ◌≤◌, length, map}
use Rattle.conflict_analysis.specs.Steps.{IsTrail}
use Rattle.watched_search.specs.Watches.{Extends, IsKept, IsSameView}
use Rattle.watched_search.proofs.searching.find_conflict.Given as goal

abbrev pub invariant-loop : goal.invariant-loop
invariant-loop g l = record {
  vars : l.assigned.vars ≡ l.arena.vars;
  view : IsSameView l.fn.arena l.arena;
  trail : IsTrail l.arena l.assigned.vars l.assigned.lits l.assigned.levels l.assigned.reasons;
  kept : IsKept l.arena l.assigned.lits l.assigned.levels l.next;
  extends : Extends l.fn.assigned.lits l.assigned.lits;
  within : l.next ≤ length l.assigned.lits;
  long : l.counter ≤ length l.assigned.lits;
  told : map (λ b. (goal.Decider-dyn g (b.vtable, b.value)).told b.value) l.deciders.items
      ≡ map (λ b. (goal.Decider-dyn g (b.vtable, b.value)).told b.value) l.fn.deciders.items;
}
