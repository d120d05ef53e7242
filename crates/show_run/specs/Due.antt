-- What the files come to: a network, questions about it, and counterexamples to these.
use Rattle.std.specs.Prelude.{◌≡◌, ℕ, List, Option, Result, Ok, Err, All}
use Rattle.mw_text.specs.Reading.{each, following}
use Rattle.mw_outside.specs.Contents.{Contents}
use Rattle.ios_ast.specs.declared.file.File.{File}
use Rattle.question_lang.specs.declared.question.Question.{Question}
use Rattle.cex_json.specs.declared.counterexample.Counterexample.{Counterexample}
use Rattle.cex_json.specs.declared.refused.CexRefused.{CexRefused}
use Rattle.cex_json.specs.Reading.{reading as reading_cex}
use Rattle.run_inputs.specs.declared.load.TheConstants.{MOST_CEX_BYTES}
use Rattle.run_inputs.specs.declared.text.Text.{Text}
use Rattle.run_inputs.specs.Due.{Outcome, parsed_of, refused, text_of, text_within}
use Rattle.run_inputs.specs.Texts.{cex_refusal}
use Rattle.show_run.specs.Pieces.{told_in}

-- the texts of the files, read in the order in which `replay` reads them: the configurations, the questions, and then
-- what was printed
abbrev pub texts_of : Contents → List ℕ → List ℕ → List (List ℕ) → Result (List Text × Text × Text) Outcome
texts_of contents printed questions names =
    following (λ texts. following (λ asked. following (λ told. Ok (texts, asked, told))
    (text_within MOST_CEX_BYTES contents printed)) (text_of contents questions)) (each (text_of contents) names)

-- a counterexample, or its refusal
abbrev pub told_as : List ℕ → Result Counterexample CexRefused → Result Counterexample Outcome
told_as name (Ok cex) = Ok cex
told_as name (Err why) = Err (refused (cex_refusal name why))

abbrev pub cex_of : List File → List Question → Text → Result Counterexample Outcome
cex_of files questions text = told_as text.name (reading_cex files questions text.bytes)

-- the network and the questions, and the counterexamples in what was printed, parsed in the order in which `replay`
-- parses them
abbrev pub told_due : List Text → Text → Text → Result ((List File × List Question) × List Counterexample) Outcome
told_due texts asked told =
    following (λ parsed. following (λ cexes. Ok (parsed, cexes)) (each (cex_of parsed.0 parsed.1) (told_in told)))
    (parsed_of texts asked)
