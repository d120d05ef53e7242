use Rattle.std.proofs.Common.{◌≡◌, length, map, take}
use Rattle.asked_files.proofs.Answering.{AreSeen}
use Rattle.net_compare.specs.Answering.{answering}
use Rattle.net_compare.proofs.answers.put_answers.Given as goal

-- the asks so far are answered, and no write failed
abbrev pub invariant-loop-at : goal.invariant-loop-at
invariant-loop-at g l = record {
  seen : AreSeen (answering l.left.files l.right.files l.budget) (take l.at l.asks)
      (g.O.Sink.taken l.initial.out) (g.O.Sink.taken l.out) (g.L.Sink.taken l.initial.log) (g.L.Sink.taken l.log)
      (map (λ b. (goal.Decider-dyn g (b.vtable, b.value)).told b.value) l.deciders.items) l.seen;
  prints : g.O.Sink.faults l.out ≡ g.O.Sink.faults l.initial.out;
  logs : g.L.Sink.faults l.log ≡ g.L.Sink.faults l.initial.log;
  deciders : length l.deciders.items ≡ length l.initial.deciders.items;
}
