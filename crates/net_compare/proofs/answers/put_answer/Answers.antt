use Rattle.std.proofs.Common.{inl, inr, refl}
use Rattle.mw_text.proofs.Results.{on_err}
use Rattle.net_compare.proofs.answers.put_answer.Goals as goal

pub returns-in_err-verdict-clause-cut : goal.returns-in_err-verdict-clause-cut
returns-in_err-verdict-clause-cut g c = on_err _ (inl (refl, c.in_err-verdict.ensures.cut))

pub returns-in_err-put_lines-clause-cut : goal.returns-in_err-put_lines-clause-cut
returns-in_err-put_lines-clause-cut g c =
    let (section, right, logs, bumps) = c.in_ok-verdict.ensures.ok in
    on_err _ (inr (
      record { verdict = c.in_ok-verdict.verdict; section = section },
      right,
      logs,
      c.put_lines.ensures.part,
    ))

pub returns-clause-ok : goal.returns-clause-ok
returns-clause-ok g c =
    let (section, right, logs, bumps) = c.in_ok-verdict.ensures.ok in
    (section, (right, logs, bumps, c.in_ok-put_lines.ensures.takes))
