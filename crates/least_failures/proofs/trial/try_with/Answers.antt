use Rattle.std.proofs.Common.{inl, refl}
use Rattle.mw_outside.specs.Taken.{part_of_none}
use Rattle.mw_text.proofs.Results.{on_err}
use Rattle.least_failures.specs.Trials.{trial}
use Rattle.run_answers.specs.Answering.{IsUnfinished}
use Rattle.run_answers.specs.Verdicts.{opening_text}
use Rattle.least_failures.proofs.Trying.{told_of}
use Rattle.least_failures.proofs.trial.try_with.Goals as goal

pub returns-in_err-asked-clause-cut : goal.returns-in_err-asked-clause-cut
returns-in_err-asked-clause-cut g c =
    let asked = trial c.args.k c.args.question.now in
    let taken = g.L.Sink.taken c.args.log.now in
    let left : IsUnfinished c.args.net.now.files c.args.budget asked taken taken =
    (opening_text asked, inl refl, part_of_none taken (opening_text asked)) in on_err _ left

pub returns-clause-ok : goal.returns-clause-ok
returns-clause-ok g c =
    told_of c.args.net.now.files c.args.budget c.args.number c.in_ok-asked.asked (trial c.args.k c.args.question.now)
    c.answer.result (g.L.Sink.taken c.args.log.now) (g.L.Sink.taken c.answer.new.log) _ c.in_ok-asked.ensures
    c.answer.ensures.ok
