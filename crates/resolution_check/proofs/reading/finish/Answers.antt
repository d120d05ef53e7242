use Rattle.std.proofs.Common.{◌∙◌, ap, inr, refl}
use Rattle.resolution_check.specs.Words.{finished, words_left}
use Rattle.resolution_check.proofs.Texts.{not_finished}
use Rattle.resolution_check.proofs.reading.finish.Goals as goal

pub returns-in-Some : goal.returns-in-Some
returns-in-Some c =
    inr (
      refl,
      ap (λ r. finished (words_left r) c.args.entry) c.in-Some.is
          ∙ not_finished c.in-Some.field-0.now c.args.entry,
    )
