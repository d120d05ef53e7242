use Rattle.std.proofs.Common.{map, string_bytes}
use Rattle.log_trim.proofs.running.trim_words.Goals as goal

pub returns-clause-so : goal.returns-clause-so
returns-clause-so g c =
    c.put_work.ensures (g.F.Files.contents c.args.files.now) (map string_bytes c.args.words.now) _ c.work_of.ensures.so
