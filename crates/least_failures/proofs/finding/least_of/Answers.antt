use Rattle.std.proofs.Common.{◌≡◌, ◌∙◌, ◌+◌, ◌≤◌, ℕ, arith, refl, subst}
use Rattle.mw_outside.specs.Faults.{Rose}
use Rattle.least_failures.proofs.Trying.{found_at, found_none, found_unknown, tried_more, tried_none, unfound}
use Rattle.least_failures.proofs.finding.least_of.Goals as goal

pub loop-count-init : goal.loop-count-init
loop-count-init g c = record {
  within = omega arith;
  tried = tried_none c.args.net.now.files c.args.question.now c.args.budget (g.L.Sink.taken c.args.log.now) _;
  logs = refl;
  deciders = refl;
}

pub returns-in-Ok-Broken-clause-ok : goal.returns-in-Ok-Broken-clause-ok
returns-in-Ok-Broken-clause-ok g c =
    let test = c.loop-count-test.true in
    let within : c.loop-count.count ≤ c.args.question.now.failures = omega (arith, test) in
    found_at c.args.net.now.files c.args.question.now c.args.budget c.args.number c.loop-count.count c.in-Ok-Broken.cex
    (g.L.Sink.taken c.args.log.now) (g.L.Sink.taken c.loop-count.log) (g.L.Sink.taken c.try_with.new.log) _ _
    c.loop-count.invariant.tried within (rw c.in-Ok-Broken.field-0-is at c.in-Ok-Broken.ensures.ok)

pub returns-in-Ok-Unknown-clause-ok : goal.returns-in-Ok-Unknown-clause-ok
returns-in-Ok-Unknown-clause-ok g c =
    let test = c.loop-count-test.true in
    let within : c.loop-count.count ≤ c.args.question.now.failures = omega (arith, test) in
    found_unknown c.args.net.now.files c.args.question.now c.args.budget c.args.number c.loop-count.count _
    (g.L.Sink.taken c.args.log.now) (g.L.Sink.taken c.loop-count.log) (g.L.Sink.taken c.try_with.new.log) _ _
    c.loop-count.invariant.tried within (rw c.in-Ok-Unknown.field-0-is at c.in-Ok-Unknown.ensures.ok)

pub returns-in-Err-LogFault-clause-cut : goal.returns-in-Err-LogFault-clause-cut
returns-in-Err-LogFault-clause-cut g c =
    let test = c.loop-count-test.true in
    let within : c.loop-count.count ≤ c.args.question.now.failures = omega (arith, test) in
    unfound c.args.net.now.files c.args.question.now c.args.budget c.loop-count.count (g.L.Sink.taken c.args.log.now)
    (g.L.Sink.taken c.loop-count.log) (g.L.Sink.taken c.try_with.new.log) _ c.loop-count.invariant.tried within
    c.in-Err-LogFault.ensures.cut

pub returns-in-Err-LogFault-clause-fault : goal.returns-in-Err-LogFault-clause-fault
returns-in-Err-LogFault-clause-fault g c =
    let R : ℕ → Type 0 = λ before. Rose before (g.L.Sink.faults c.try_with.new.log) in
    subst R c.loop-count.invariant.logs (rw c.in-Err-LogFault.field-0-is at c.in-Err-LogFault.ensures.fault)

pub returns-in-Err-Memory-clause-cut : goal.returns-in-Err-Memory-clause-cut
returns-in-Err-Memory-clause-cut g c =
    let test = c.loop-count-test.true in
    let within : c.loop-count.count ≤ c.args.question.now.failures = omega (arith, test) in
    unfound c.args.net.now.files c.args.question.now c.args.budget c.loop-count.count (g.L.Sink.taken c.args.log.now)
    (g.L.Sink.taken c.loop-count.log) (g.L.Sink.taken c.try_with.new.log) _ c.loop-count.invariant.tried within
    c.in-Err-Memory.ensures.cut

pub loop-count-preserved : goal.loop-count-preserved
loop-count-preserved g c =
    let test = c.loop-count-test.true in record {
      within = omega (arith, test);
      tried = tried_more c.args.net.now.files c.args.question.now c.args.budget c.args.number c.loop-count.count
          (g.L.Sink.taken c.args.log.now) (g.L.Sink.taken c.loop-count.log) (g.L.Sink.taken c.try_with.new.log) _ _
          c.loop-count.invariant.tried (rw c.in-Ok-Holds.field-0-is at c.in-Ok-Holds.ensures.ok);
      logs = c.in-Ok-Holds.ensures.stays ∙ c.loop-count.invariant.logs;
      deciders = c.try_with.ensures.deciders ∙ c.loop-count.invariant.deciders;
    }

pub returns-clause-ok : goal.returns-clause-ok
returns-clause-ok g c =
    let test = c.loop-count-test.false in
    let within = c.loop-count.invariant.within in
    let all : c.loop-count.count ≡ c.args.question.now.failures + 1 = omega (arith, test, within) in
    found_none c.args.net.now.files c.args.question.now c.args.budget c.args.number c.loop-count.count
    (g.L.Sink.taken c.args.log.now) (g.L.Sink.taken c.loop-count.log) _ c.loop-count.invariant.tried all
