use Rattle.std.proofs.Common.{◌≡◌, ◌<◌, ◌∙◌, ℕ, ap, arith, get_or, length, subst}
use Rattle.std.specs.Prelude.{◌⊎◌}
use Rattle.mw_outside.specs.Faults.{Rose}
use Rattle.mw_verify.proofs.Answering.{put-all, put-cut, put-more}
use Rattle.mw_verify.proofs.verdicts.put_verdicts.Goals as goal

pub returns-in-Err-WriteFault-clause-answers : goal.returns-in-Err-WriteFault-clause-answers
returns-in-Err-WriteFault-clause-answers g c =
    let questions = c.args.loaded.now.questions in
    let items = c.as_slice-question-items.ensures in
    let test = c.loop-at-test.true in
    let long = ap length items in
    let within : c.loop-at.at < length questions = omega (arith, test, long) in
    let item = c.question-item.is in
    let is : c.question-item.result ≡ get_or questions c.loop-at.at c.question-item.result = cc in
    let R : ℕ → Type 0 = λ count. Rose count (g.O.Sink.faults c.put_verdict.new.out)
    ⊎ Rose (g.L.Sink.faults c.loop-at.log) (g.L.Sink.faults c.put_verdict.new.log) in
    let S : ℕ → Type 0 = λ count. Rose (g.O.Sink.faults c.args.out.now) (g.O.Sink.faults c.put_verdict.new.out)
    ⊎ Rose count (g.L.Sink.faults c.put_verdict.new.log) in (
      put-cut c.args.loaded.now.net.files questions c.args.loaded.now.budget c.loop-at.at c.question-item.result
          c.loop-at.seen.broken c.loop-at.seen.unknown (g.O.Sink.taken c.args.out.now) (g.O.Sink.taken c.loop-at.out)
          (g.O.Sink.taken c.put_verdict.new.out) (g.L.Sink.taken c.args.log.now) (g.L.Sink.taken c.loop-at.log)
          (g.L.Sink.taken c.put_verdict.new.log) _ c.loop-at.invariant.put within is c.in-Err-WriteFault.ensures.cut,
      subst S c.loop-at.invariant.logs (subst R c.loop-at.invariant.prints
          (rw c.in-Err-WriteFault.field-0-is at c.in-Err-WriteFault.ensures.fault)),
    )

pub returns-in-Err-Memory-clause-answers : goal.returns-in-Err-Memory-clause-answers
returns-in-Err-Memory-clause-answers g c =
    let questions = c.args.loaded.now.questions in
    let items = c.as_slice-question-items.ensures in
    let test = c.loop-at-test.true in
    let long = ap length items in
    let within : c.loop-at.at < length questions = omega (arith, test, long) in
    let item = c.question-item.is in
    let is : c.question-item.result ≡ get_or questions c.loop-at.at c.question-item.result = cc in
    put-cut c.args.loaded.now.net.files questions c.args.loaded.now.budget c.loop-at.at c.question-item.result
    c.loop-at.seen.broken c.loop-at.seen.unknown (g.O.Sink.taken c.args.out.now) (g.O.Sink.taken c.loop-at.out)
    (g.O.Sink.taken c.put_verdict.new.out) (g.L.Sink.taken c.args.log.now) (g.L.Sink.taken c.loop-at.log)
    (g.L.Sink.taken c.put_verdict.new.log) _ c.loop-at.invariant.put within is c.in-Err-Memory.ensures.cut

pub loop-at-preserved : goal.loop-at-preserved
loop-at-preserved g c =
    let questions = c.args.loaded.now.questions in
    let items = c.as_slice-question-items.ensures in
    let test = c.loop-at-test.true in
    let long = ap length items in
    let within : c.loop-at.at < length questions = omega (arith, test, long) in
    let item = c.question-item.is in
    let is : c.question-item.result ≡ get_or questions c.loop-at.at c.question-item.result = cc in record {
      put = put-more c.args.loaded.now.net.files questions c.args.loaded.now.budget c.loop-at.at c.question-item.result
          c.in-Ok.verdict c.loop-at.seen.broken c.loop-at.seen.unknown c.with-seen.result.broken
          c.with-seen.result.unknown (g.O.Sink.taken c.args.out.now) (g.O.Sink.taken c.loop-at.out)
          (g.O.Sink.taken c.put_verdict.new.out) (g.L.Sink.taken c.args.log.now) (g.L.Sink.taken c.loop-at.log)
          (g.L.Sink.taken c.put_verdict.new.log) _ _ c.loop-at.invariant.put within is c.in-Ok.ensures.ok
          c.with-seen.ensures.broken c.with-seen.ensures.unknown;
      prints = c.in-Ok.ensures.writes.0 ∙ c.loop-at.invariant.prints;
      logs = c.in-Ok.ensures.writes.1 ∙ c.loop-at.invariant.logs;
      deciders = c.put_verdict.ensures.deciders ∙ c.loop-at.invariant.deciders;
    }

pub returns-clause-answers : goal.returns-clause-answers
returns-clause-answers g c =
    let questions = c.args.loaded.now.questions in
    let items = c.as_slice-question-items.ensures in
    let test = c.loop-at-test.false in
    let long = ap length items in
    put-all c.args.loaded.now.net.files questions c.args.loaded.now.budget c.loop-at.at c.loop-at.seen.broken
    c.loop-at.seen.unknown c.status.result (g.O.Sink.taken c.args.out.now) (g.O.Sink.taken c.loop-at.out)
    (g.L.Sink.taken c.args.log.now) (g.L.Sink.taken c.loop-at.log) _ _ c.loop-at.invariant.put
    (omega (arith, test, long)) c.status.ensures
