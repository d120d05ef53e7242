-- The kinds of asks and their grammar.
use Rattle.std.specs.Prelude.{ℕ, List, [], Option, Result, option_and_then, option_map, slice_get}
use Rattle.std.specs.List.{find}
use Rattle.ios_policy_reader.specs.declared.cause.Cause.{Cause}
use Rattle.ios_policy_reader.specs.declared.said.Said.{Said}
use Rattle.ios_policy_reader.specs.Edges.{read_from}
use Rattle.ios_policy_reader.specs.Words.{is_key}
use Rattle.export_asks.specs.declared.forms.Form.{Form}
use Rattle.export_asks.specs.declared.forms.Form.TheVariants.{NoExport, NoLeak}
use Rattle.export_asks.specs.declared.forms.TheConstants.{FORM_NAMES}
use Rattle.export_asks.specs.declared.table.TheConstants.{ASK}

-- the place of a kind among the kinds: the state in which an ask of that kind begins
abbrev pub form_number : Form → ℕ
form_number NoExport = 0
form_number NoLeak = 1

-- the kind that a word names, in any case
unfoldable pub form_named : List ℕ → Option Form
form_named word = option_map (λ name. name.1) (find (λ name. is_key name.0 word) FORM_NAMES)

-- the kind of a line's ask is named by its second word
abbrev pub form_of : List (List ℕ) → Option Form
form_of words = option_and_then form_named (slice_get words 1)

-- what the words of an ask of the kind say, from the first on, or which word is bad
unfoldable pub words_said : Form → List (List ℕ) → Result (List Said) Cause
words_said form words = read_from ASK (form_number form) [] 0 words
