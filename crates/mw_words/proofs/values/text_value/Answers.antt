use Rattle.std.proofs.Common.{◌∙◌}
use Rattle.clap.specs.Words.{found_of}
use Rattle.clap.proofs.WalkLemmas.{first_value-rows}
use Rattle.mw_words.proofs.Found.{no_value, some_value}
use Rattle.mw_words.proofs.values.text_value.Goals as goal

pub returns-in-Some : goal.returns-in-Some
returns-in-Some c =
    some_value (λ s. s.now) c.get_str.result c.in-Some.text _ c.in-Some.is
    (c.get_str.ensures ∙ first_value-rows (found_of c.args.matches.now) c.args.id.now)

pub returns-in-None : goal.returns-in-None
returns-in-None c =
    no_value (λ s. s.now) c.get_str.result _ c.in-None.is
    (c.get_str.ensures ∙ first_value-rows (found_of c.args.matches.now) c.args.id.now)
