-- What single lines read as.
use Rattle.std.specs.Prelude.{ℕ, List, Option, None, Result, Ok, Err}
use Rattle.mw_text.specs.Words.{words_in}
use Rattle.ios_policy_reader.specs.declared.cause.Cause.{Cause}
use Rattle.ios_policy_reader.specs.declared.said.Said.{Said}
use Rattle.ios_policy_reader.specs.Edges.{bad_word_in}
use Rattle.question_lang.specs.Worked.{three_routers}
use Rattle.export_asks.specs.declared.ask.Ask.{Ask}
use Rattle.export_asks.specs.declared.forms.Form.{Form}
use Rattle.export_asks.specs.Asking.{ask_of}
use Rattle.export_asks.specs.Grammar.{words_said}

-- which word of an ask of the kind is bad, or 0
abbrev pub bad_word : Form → List ℕ → ℕ
bad_word form text = bad_word_in (words_said form (words_in text))

abbrev pub ask_by : Form → List (List ℕ) → Result (List Said) Cause → Option Ask
ask_by form words (Ok said) = ask_of three_routers form words said
ask_by form words (Err cause) = None

-- what an ask of the kind asks of the routers A, B and C
abbrev pub ask_in_text : Form → List ℕ → Option Ask
ask_in_text form text = ask_by form (words_in text) (words_said form (words_in text))
