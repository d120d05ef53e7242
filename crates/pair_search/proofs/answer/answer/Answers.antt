use Rattle.mw_text.proofs.Results.{on_err}
use Rattle.pair_search.proofs.Formulas.{section_whole, verdict_logged}
use Rattle.pair_search.proofs.answer.answer.Goals as goal

pub returns-in_err-verdict-clause-cut : goal.returns-in_err-verdict-clause-cut
returns-in_err-verdict-clause-cut g c =
    on_err _ (section_whole c.args.left.now.files c.args.right.now.files c.args.ask.now c.args.budget c.in_ok-formula.field-0.outcome
    (g.L.Sink.taken c.args.log.now) (g.L.Sink.taken c.search.new.log) _ c.in_ok-formula.ensures.found.logged)

pub returns-clause-ok : goal.returns-clause-ok
returns-clause-ok g c =
    verdict_logged c.args.left.now.files c.args.right.now.files c.args.budget c.args.ask.now c.in_ok-formula.field-0.outcome
    c.in_ok-verdict.verdict (g.L.Sink.taken c.args.log.now) (g.L.Sink.taken c.search.new.log) _
    c.in_ok-formula.ensures.found.logged c.in_ok-formula.ensures.found.unknown c.in_ok-verdict.ensures.right
    c.in_ok-verdict.ensures.shown
