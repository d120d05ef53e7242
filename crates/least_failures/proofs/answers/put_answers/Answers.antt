use Rattle.std.proofs.Common.{◌∙◌, arith, refl}
use Rattle.asked_files.proofs.Endings.{rose_since}
use Rattle.least_failures.proofs.Answering.{seen_all, seen_answers, seen_cut, seen_more, seen_none}
use Rattle.least_failures.proofs.answers.put_answers.Goals as goal

pub loop-at-init : goal.loop-at-init
loop-at-init g c = record {
  seen = seen_none c.args.net.now.files c.args.questions.now c.args.budget (g.O.Sink.taken c.args.out.now)
      (g.L.Sink.taken c.args.log.now) _ _ refl;
  prints = refl;
  logs = refl;
  deciders = refl;
}

pub returns-in-Err-WriteFault-clause-so : goal.returns-in-Err-WriteFault-clause-so
returns-in-Err-WriteFault-clause-so g c = (
  rose_since (g.O.Sink.faults c.args.out.now) (g.O.Sink.faults c.loop-at.out) (g.O.Sink.faults c.put_least.new.out)
      (g.L.Sink.faults c.args.log.now) (g.L.Sink.faults c.loop-at.log) (g.L.Sink.faults c.put_least.new.log)
      c.loop-at.invariant.prints c.loop-at.invariant.logs
      (rw c.in-Err-WriteFault.field-0-is at c.in-Err-WriteFault.ensures.fault),
  seen_cut c.args.net.now.files c.args.questions.now c.args.budget c.loop-at.at c.loop-at.seen
      (g.O.Sink.taken c.args.out.now) (g.O.Sink.taken c.loop-at.out) (g.O.Sink.taken c.put_least.new.out)
      (g.L.Sink.taken c.args.log.now) (g.L.Sink.taken c.loop-at.log) (g.L.Sink.taken c.put_least.new.log) _
      c.loop-at.invariant.seen c.in-Err-WriteFault.ensures.cut,
)

pub returns-in-Err-Memory-clause-so : goal.returns-in-Err-Memory-clause-so
returns-in-Err-Memory-clause-so g c =
    let still = rw c.in-Err-Memory.field-0-is at c.in-Err-Memory.ensures.writes in (
      (still.0 ∙ c.loop-at.invariant.prints, still.1 ∙ c.loop-at.invariant.logs),
      seen_cut c.args.net.now.files c.args.questions.now c.args.budget c.loop-at.at c.loop-at.seen
          (g.O.Sink.taken c.args.out.now) (g.O.Sink.taken c.loop-at.out) (g.O.Sink.taken c.put_least.new.out)
          (g.L.Sink.taken c.args.log.now) (g.L.Sink.taken c.loop-at.log) (g.L.Sink.taken c.put_least.new.log) _
          c.loop-at.invariant.seen c.in-Err-Memory.ensures.cut,
    )

pub loop-at-preserved : goal.loop-at-preserved
loop-at-preserved g c = record {
  seen = seen_more c.args.net.now.files c.args.questions.now c.args.budget c.loop-at.at c.loop-at.seen
      c.with_found-seen.result c.in-Ok.found (g.O.Sink.taken c.args.out.now) (g.O.Sink.taken c.loop-at.out)
      (g.O.Sink.taken c.put_least.new.out) (g.L.Sink.taken c.args.log.now) (g.L.Sink.taken c.loop-at.log)
      (g.L.Sink.taken c.put_least.new.log) _ _ c.loop-at.invariant.seen c.in-Ok.ensures.ok
      c.with_found-seen.ensures.broken c.with_found-seen.ensures.unknown;
  prints = c.in-Ok.ensures.writes.0 ∙ c.loop-at.invariant.prints;
  logs = c.in-Ok.ensures.writes.1 ∙ c.loop-at.invariant.logs;
  deciders = c.put_least.ensures.deciders ∙ c.loop-at.invariant.deciders;
}

pub returns-clause-so : goal.returns-clause-so
returns-clause-so g c =
    let test = c.loop-at-test.false in
    seen_answers c.args.net.now.files c.args.questions.now c.args.budget _ c.loop-at.seen c.ended_by.result c.ended_by.ensures
    (c.loop-at.invariant.prints, c.loop-at.invariant.logs)
    (seen_all c.args.net.now.files c.args.questions.now c.args.budget c.loop-at.at c.loop-at.seen
    (g.O.Sink.taken c.args.out.now) (g.O.Sink.taken c.loop-at.out) (g.L.Sink.taken c.args.log.now)
    (g.L.Sink.taken c.loop-at.log) _ (omega (arith, test)) c.loop-at.invariant.seen)
