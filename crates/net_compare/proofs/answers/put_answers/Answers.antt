use Rattle.std.proofs.Common.{◌∙◌, arith, refl}
use Rattle.asked_files.proofs.Answering.{seen_all, seen_answers, seen_cut, seen_more, seen_none}
use Rattle.asked_files.proofs.Endings.{rose_since}
use Rattle.net_compare.specs.Answering.{answering}
use Rattle.net_compare.proofs.Ending.{known_at}
use Rattle.net_compare.proofs.answers.put_answers.Goals as goal

pub loop-at-init : goal.loop-at-init
loop-at-init g c = record {
  seen = seen_none (answering c.args.left.now.files c.args.right.now.files c.args.budget) c.args.asks.now
      (g.O.Sink.taken c.args.out.now) (g.L.Sink.taken c.args.log.now) _ _ refl;
  prints = refl;
  logs = refl;
  deciders = refl;
}

pub put_answer-requires-clause-known : goal.put_answer-requires-clause-known
put_answer-requires-clause-known g c = known_at c.args.left.now.files c.args.right.now.files c.args.asks.now c.loop-at.at
    c.ask_at-ask.result.now c.requires.known c.ask_at-ask.ensures

pub returns-in-Err-WriteFault-clause-so : goal.returns-in-Err-WriteFault-clause-so
returns-in-Err-WriteFault-clause-so g c = (
  rose_since (g.O.Sink.faults c.args.out.now) (g.O.Sink.faults c.loop-at.out) (g.O.Sink.faults c.put_answer.new.out)
      (g.L.Sink.faults c.args.log.now) (g.L.Sink.faults c.loop-at.log) (g.L.Sink.faults c.put_answer.new.log)
      c.loop-at.invariant.prints c.loop-at.invariant.logs
      (rw c.in-Err-WriteFault.field-0-is at c.in-Err-WriteFault.ensures.fault),
  seen_cut (answering c.args.left.now.files c.args.right.now.files c.args.budget) c.args.asks.now c.loop-at.at
      c.loop-at.seen c.ask_at-ask.result.now
      (g.O.Sink.taken c.args.out.now) (g.O.Sink.taken c.loop-at.out) (g.O.Sink.taken c.put_answer.new.out)
      (g.L.Sink.taken c.args.log.now) (g.L.Sink.taken c.loop-at.log) (g.L.Sink.taken c.put_answer.new.log) _
      c.loop-at.invariant.seen c.ask_at-ask.ensures c.in-Err-WriteFault.ensures.cut,
)

pub returns-in-Err-Memory-clause-so : goal.returns-in-Err-Memory-clause-so
returns-in-Err-Memory-clause-so g c =
    let still = rw c.in-Err-Memory.field-0-is at c.in-Err-Memory.ensures.writes in (
      (still.0 ∙ c.loop-at.invariant.prints, still.1 ∙ c.loop-at.invariant.logs),
      seen_cut (answering c.args.left.now.files c.args.right.now.files c.args.budget) c.args.asks.now c.loop-at.at
          c.loop-at.seen c.ask_at-ask.result.now
          (g.O.Sink.taken c.args.out.now) (g.O.Sink.taken c.loop-at.out) (g.O.Sink.taken c.put_answer.new.out)
          (g.L.Sink.taken c.args.log.now) (g.L.Sink.taken c.loop-at.log) (g.L.Sink.taken c.put_answer.new.log) _
          c.loop-at.invariant.seen c.ask_at-ask.ensures c.in-Err-Memory.ensures.cut,
    )

pub loop-at-preserved : goal.loop-at-preserved
loop-at-preserved g c =
    let (section, put) = c.in-Ok.ensures.ok in
    record {
      seen = seen_more (answering c.args.left.now.files c.args.right.now.files c.args.budget) c.args.asks.now
          c.loop-at.at c.loop-at.seen c.with_verdict-seen.result c.ask_at-ask.result.now
          (record { verdict = c.in-Ok.verdict; section = section }) (g.O.Sink.taken c.args.out.now)
          (g.O.Sink.taken c.loop-at.out) (g.O.Sink.taken c.put_answer.new.out) (g.L.Sink.taken c.args.log.now)
          (g.L.Sink.taken c.loop-at.log) (g.L.Sink.taken c.put_answer.new.log) _ _ c.loop-at.invariant.seen
          c.ask_at-ask.ensures put c.with_verdict-seen.ensures.broken c.with_verdict-seen.ensures.unknown;
      prints = c.in-Ok.ensures.writes.0 ∙ c.loop-at.invariant.prints;
      logs = c.in-Ok.ensures.writes.1 ∙ c.loop-at.invariant.logs;
      deciders = c.put_answer.ensures.deciders ∙ c.loop-at.invariant.deciders;
    }

pub returns-clause-so : goal.returns-clause-so
returns-clause-so g c =
    let test = c.loop-at-test.false in
    let k = answering c.args.left.now.files c.args.right.now.files c.args.budget in
    seen_answers k c.args.asks.now _ c.loop-at.seen c.ended_by.result c.ended_by.ensures
    (c.loop-at.invariant.prints, c.loop-at.invariant.logs)
    (seen_all k c.args.asks.now c.loop-at.at c.loop-at.seen
    (g.O.Sink.taken c.args.out.now) (g.O.Sink.taken c.loop-at.out) (g.L.Sink.taken c.args.log.now)
    (g.L.Sink.taken c.loop-at.log) _ (omega (arith, test)) c.loop-at.invariant.seen)
