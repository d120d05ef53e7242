use Rattle.std.proofs.Common.{length, refl}
use Rattle.std.proofs.lemmas.Option.{slice_get_read}
use Rattle.least_failures.proofs.finding.question_at.Goals as goal

pub returns : goal.returns
returns c =
    slice_get_read c.args.questions.now (length c.args.questions.now) c.args.number c.index-questions-number.result refl
    c.requires c.index-questions-number.is
