use Rattle.std.proofs.Common.{◌≡◌, ℕ, ◌+◌, List, Option, length, map}
use Rattle.resolution_check.specs.declared.log.Clause.{Clause}
use Rattle.clause_arena.specs.Held.{held_in}
use Rattle.watched_search.specs.Sets.{GivesSets}
use Rattle.cdcl_search.specs.Going.{IsGoing, IsReady}
use Rattle.cdcl_search.proofs.searching.search.Given as goal

abbrev pub invariant-loop-added : goal.invariant-loop-added
invariant-loop-added g l = record {
  work_vars : l.work.vars ≡ l.assigned.vars;
  same_vars : l.assigned.vars ≡ l.fn.assigned.vars;
  ready : IsReady l.arena l.assigned (l.fn.first + l.added) l.from;
  gives : GivesSets (held_in l.fn.arena) (held_in l.arena);
  going : (before : Option (List ℕ)) (ins : List Clause)
      → IsGoing before (g.L.Sink.taken l.fn.log) ins (held_in l.fn.arena) l.fn.first 0 0
      (map (λ b. (goal.Decider-dyn g (b.vtable, b.value)).told b.value) l.fn.deciders.items)
      → IsGoing before (g.L.Sink.taken l.log) ins (held_in l.arena) (l.fn.first + l.added) l.added l.runs
      (map (λ b. (goal.Decider-dyn g (b.vtable, b.value)).told b.value) l.deciders.items);
  stays : g.L.Sink.faults l.log ≡ g.L.Sink.faults l.fn.log;
  deciders : length l.deciders.items ≡ length l.fn.deciders.items;
}
