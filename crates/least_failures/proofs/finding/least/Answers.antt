use Rattle.mw_text.proofs.Results.{err_then, ok_then}
use Rattle.least_failures.proofs.finding.least.Goals as goal

pub returns-clause-ok : goal.returns-clause-ok
returns-clause-ok g c =
    ok_then c.least_of.result c.least_of.ensures.ok (λ found is. (c.question_at-question.result.now, c.question_at-question.ensures, is))

pub returns-clause-cut : goal.returns-clause-cut
returns-clause-cut g c =
    err_then c.least_of.result c.least_of.ensures.cut (λ is. (c.question_at-question.result.now, c.question_at-question.ensures, is))
