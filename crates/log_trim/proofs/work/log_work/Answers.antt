use Rattle.std.proofs.Common.{List, ℕ, subst}
use Rattle.log_trim.specs.Bytes.{BecomesOf}
use Rattle.log_trim.specs.Due.{read_as}
use Rattle.log_trim.proofs.Commands.{log_read}
use Rattle.log_trim.proofs.work.log_work.Goals as goal
use Rattle.trimmed_logs.specs.Logs.{sections_in}

pub returns-in-Ok-clause-so : goal.returns-in-Ok-clause-so
returns-in-Ok-clause-so g c =
    let name = c.args.name.now in
    let B : List ℕ → Type 0 = λ bytes. BecomesOf (read_as name (sections_in bytes)) c.trim_bytes.result in
    log_read (g.F.Files.contents c.args.files.now) name c.in-Ok.bytes _ c.trim_bytes.result c.in-Ok.ensures.whole
    c.in-Ok.ensures.within (c.in-Ok.ensures.stays, c.in-Ok.ensures.name_stays)
    (subst B c.as_slice.ensures c.trim_bytes.ensures)
