use Rattle.std.proofs.Common.{◌≡◌, length, map, take}
use Rattle.least_failures.proofs.Answering.{AreSeen}
use Rattle.least_failures.proofs.answers.put_answers.Given as goal

-- the questions so far are answered, and no write failed
abbrev pub invariant-loop-at : goal.invariant-loop-at
invariant-loop-at g l = record {
  seen : AreSeen l.net.files l.questions l.budget (take l.at l.questions)
      (g.O.Sink.taken l.initial.out) (g.O.Sink.taken l.out) (g.L.Sink.taken l.initial.log) (g.L.Sink.taken l.log)
      (map (λ b. (goal.Decider-dyn g (b.vtable, b.value)).told b.value) l.deciders.items) l.seen;
  prints : g.O.Sink.faults l.out ≡ g.O.Sink.faults l.initial.out;
  logs : g.L.Sink.faults l.log ≡ g.L.Sink.faults l.initial.log;
  deciders : length l.deciders.items ≡ length l.initial.deciders.items;
}
