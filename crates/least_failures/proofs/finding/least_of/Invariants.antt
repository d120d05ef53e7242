use Rattle.std.proofs.Common.{◌≡◌, ◌+◌, ◌≤◌, length, map}
use Rattle.least_failures.proofs.Trying.{Tried}
use Rattle.least_failures.proofs.finding.least_of.Given as goal

-- the trials so far show that nothing breaks the question, and no write failed
abbrev pub invariant-loop-count : goal.invariant-loop-count
invariant-loop-count g l = record {
  within : l.count ≤ l.question.failures + 1;
  tried : Tried l.net.files l.question l.budget l.count (g.L.Sink.taken l.initial.log) (g.L.Sink.taken l.log)
      (map (λ b. (goal.Decider-dyn g (b.vtable, b.value)).told b.value) l.deciders.items);
  logs : g.L.Sink.faults l.log ≡ g.L.Sink.faults l.initial.log;
  deciders : length l.deciders.items ≡ length l.initial.deciders.items;
}
