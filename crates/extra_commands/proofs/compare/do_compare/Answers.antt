use Rattle.std.proofs.Common.{inl, map, refl}
use Rattle.std.specs.Prelude.{string_bytes}
use Rattle.asked_files.proofs.Running.{ends_refused, ends_usage}
use Rattle.compare_words.specs.Words.{asked_of}
use Rattle.net_compare.specs.Running.{comparing}
use Rattle.net_compare.proofs.Ending.{ends_compared}
use Rattle.extra_commands.proofs.compare.do_compare.Goals as goal

pub returns-in-Ok-Some-clause-so : goal.returns-in-Ok-Some-clause-so
returns-in-Ok-Some-clause-so g c =
    let so = rw c.in-Ok-Some.field-0-is at c.in-Ok-Some.ensures.so in
    ends_compared (g.F.Files.contents c.args.files.now) (asked_of (map string_bytes c.args.words.now)) _ _ _ _ _ _ _
    c.in-Ok-Some.loaded.budget c.end_work.result so.2.0 so.1 so.2.1 so.2.2 c.end_work.ensures.so

pub returns-in-Ok-None-clause-so : goal.returns-in-Ok-None-clause-so
returns-in-Ok-None-clause-so g c =
    let so = rw c.in-Ok-None.field-0-is at c.in-Ok-None.ensures.so in
    ends_usage comparing (g.F.Files.contents c.args.files.now) (asked_of (map string_bytes c.args.words.now)) _ _ _
    c.put_usage.result so.0 so.1 refl refl refl c.put_usage.ensures

pub returns-in-Err-Refused-clause-so : goal.returns-in-Err-Refused-clause-so
returns-in-Err-Refused-clause-so g c =
    let so = rw c.in-Err-Refused.field-0-is at c.in-Err-Refused.ensures.so in
    ends_refused comparing (g.F.Files.contents c.args.files.now) (asked_of (map string_bytes c.args.words.now)) _ _ _
    so.0 _ c.put_refusal.result so.2.0 so.1 so.2.1 refl refl refl
    (rw c.in-Err-Refused.field-0-is at c.put_refusal.ensures)

pub returns-in-Err-ReadFault-clause-so : goal.returns-in-Err-ReadFault-clause-so
returns-in-Err-ReadFault-clause-so g c =
    ((refl, refl), refl, refl, rw c.in-Err-ReadFault.field-0-is at c.in-Err-ReadFault.ensures.so)

pub returns-in-Err-Memory-clause-so : goal.returns-in-Err-Memory-clause-so
returns-in-Err-Memory-clause-so g c =
    (rw c.in-Err-Memory.field-0-is at c.in-Err-Memory.ensures.so, (refl, refl), inl (refl, refl))
