use Rattle.mw_text.proofs.Results.{on_err}
use Rattle.least_failures.proofs.Answering.{cut_found, cut_unfound, put_found}
use Rattle.least_failures.proofs.answers.put_least.Goals as goal

pub returns-in_err-found-clause-cut : goal.returns-in_err-found-clause-cut
returns-in_err-found-clause-cut g c =
    on_err _ (cut_unfound c.args.net.now.files c.args.questions.now c.args.budget c.args.number
    (g.O.Sink.taken c.args.out.now) (g.L.Sink.taken c.args.log.now) (g.L.Sink.taken c.least.new.log)
    c.in_err-found.ensures.cut)

pub returns-in_err-put_lines-clause-cut : goal.returns-in_err-put_lines-clause-cut
returns-in_err-put_lines-clause-cut g c =
    on_err _ (cut_found c.args.net.now.files c.args.questions.now c.args.budget c.args.number c.question_at-question.result.now
    c.in_ok-found.found (g.O.Sink.taken c.args.out.now) (g.O.Sink.taken c.put_lines.new.out)
    (g.L.Sink.taken c.args.log.now) (g.L.Sink.taken c.least.new.log) _ c.question_at-question.ensures c.in_ok-found.ensures.ok
    c.put_lines.ensures.part)

pub returns-clause-ok : goal.returns-clause-ok
returns-clause-ok g c =
    put_found c.args.net.now.files c.args.questions.now c.args.budget c.args.number c.question_at-question.result.now
    c.in_ok-found.found (g.O.Sink.taken c.args.out.now) (g.O.Sink.taken c.put_lines.new.out)
    (g.L.Sink.taken c.args.log.now) (g.L.Sink.taken c.least.new.log) _ c.question_at-question.ensures c.in_ok-found.ensures.ok
    c.in_ok-put_lines.ensures.takes
