use Rattle.std.proofs.Common.{map, refl}
use Rattle.std.specs.Prelude.{string_bytes}
use Rattle.mw_verify.proofs.Ending.{cut_nothing}
use Rattle.mw_verify.proofs.Runs.{ends_answers, ends_usage}
use Rattle.mw_verify.proofs.running.do_work.Goals as goal

pub returns-in-Ok-Some-clause-so : goal.returns-in-Ok-Some-clause-so
returns-in-Ok-Some-clause-so g c =
    let due = rw c.in-Ok-Some.field-0-is at c.in-Ok-Some.ensures.due in
    let command = rw c.in-Ok-Some.field-0-is at c.in-Ok-Some.ensures.command in
    ends_answers _ _ due.0 c.end_work.result command due.1
    (c.in-Ok-Some.ensures.quiet, c.in-Ok-Some.ensures.name_stays) (c.end_work.ensures.answers due.0 due.2)
    c.end_work.ensures.writes

pub returns-in-Ok-None-clause-so : goal.returns-in-Ok-None-clause-so
returns-in-Ok-None-clause-so g c =
    ends_usage _ _ c.put_line.result (c.in-Ok-None.ensures.none c.in-Ok-None.field-0-is)
    (c.in-Ok-None.ensures.quiet, c.in-Ok-None.ensures.name_stays) refl refl refl c.put_line.ensures

pub returns-in-Err-Memory-clause-so : goal.returns-in-Err-Memory-clause-so
returns-in-Err-Memory-clause-so g c =
    let quiet = rw c.in-Err-Memory.field-0-is at c.in-Err-Memory.ensures.quiet in
    let stays = rw c.in-Err-Memory.field-0-is at c.in-Err-Memory.ensures.name_stays in (
      cut_nothing (g.F.Files.contents c.args.files.now) (map string_bytes c.args.words.now)
          (g.O.Sink.taken c.args.out.now) (g.L.Sink.taken c.args.log.now),
      (quiet, stays),
      (refl, refl),
    )
