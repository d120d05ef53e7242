use Rattle.std.proofs.Common.{ap, map, option_map, ◌∙◌}
use Rattle.std.specs.Prelude.{string_bytes}
use Rattle.clap.specs.Words.{found_of, is_simple_and_free, rows_of}
use Rattle.mw_words.specs.Asked.{simulate, simulate_by}
use Rattle.mw_words.specs.Forms.{rows_due}
use Rattle.mw_words.proofs.Found.{asked_from, two}
use Rattle.mw_words.proofs.Simple.{simulate_simple}
use Rattle.mw_words.proofs.request.simulate_request.Goals as goal

pub matches_of-requires : goal.matches_of-requires
matches_of-requires c = ap is_simple_and_free c.in_ok-form.ensures ∙ simulate_simple

pub returns : goal.returns
returns c =
    asked_from (λ m. rows_of (found_of m)) simulate_by c.in_ok-matches.field-0 c.in-Some.matches _ _ c.in-Some.is
    (c.in_ok-matches.ensures ∙ ap (λ a. rows_due a (map string_bytes c.args.words.now)) c.in_ok-form.ensures)
    (two simulate _ _ _ _ c.text_value.ensures c.in_ok-configs.ensures)
