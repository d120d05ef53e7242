use Rattle.std.proofs.Common.{◌≡◌, length, map, take}
use Rattle.mw_verify.proofs.Answering.{PutOf}
use Rattle.mw_verify.proofs.verdicts.put_verdicts.Given as goal

-- a right answer to each question so far stands, and no write failed
abbrev pub invariant-loop-at : goal.invariant-loop-at
invariant-loop-at g l = record {
  put : PutOf l.loaded.net.files l.loaded.questions l.loaded.budget (take l.at l.loaded.questions) l.seen.broken
      l.seen.unknown
      (g.O.Sink.taken l.initial.out) (g.O.Sink.taken l.out) (g.L.Sink.taken l.initial.log) (g.L.Sink.taken l.log)
      (map (λ b. (goal.Decider-dyn g (b.vtable, b.value)).told b.value) l.deciders.items);
  prints : g.O.Sink.faults l.out ≡ g.O.Sink.faults l.initial.out;
  logs : g.L.Sink.faults l.log ≡ g.L.Sink.faults l.initial.log;
  deciders : length l.deciders.items ≡ length l.initial.deciders.items;
}
