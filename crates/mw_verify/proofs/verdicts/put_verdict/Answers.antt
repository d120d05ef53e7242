use Rattle.mw_text.proofs.Results.{on_err}
use Rattle.mw_verify.proofs.Answering.{cut_printed}
use Rattle.mw_verify.proofs.verdicts.put_verdict.Goals as goal

pub returns-in_err-put_lines-clause-cut : goal.returns-in_err-put_lines-clause-cut
returns-in_err-put_lines-clause-cut g c =
    on_err _ (cut_printed _ _ _ _ _ c.in_ok-verdict.verdict _ _ _ _ _ c.in_ok-verdict.ensures.ok c.put_lines.ensures.part)
