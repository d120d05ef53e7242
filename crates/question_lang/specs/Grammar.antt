-- The kinds of questions and their grammar.
use Rattle.std.specs.Prelude.{ℕ, List, [], Option, Result, option_and_then, option_map, slice_get}
use Rattle.std.specs.List.{find}
use Rattle.ios_policy_reader.specs.declared.cause.Cause.{Cause}
use Rattle.ios_policy_reader.specs.declared.said.Said.{Said}
use Rattle.ios_policy_reader.specs.Edges.{read_from}
use Rattle.ios_policy_reader.specs.Words.{is_key}
use Rattle.question_lang.specs.declared.forms.Form.{Form}
use Rattle.question_lang.specs.declared.forms.Form.TheVariants.{Reach, Isolate, Waypoint, NoLoop, NoBlackHole}
use Rattle.question_lang.specs.declared.forms.Form.TheVariants.{Within, Alike, NoStable}
use Rattle.question_lang.specs.declared.forms.TheConstants.{FORM_NAMES}
use Rattle.question_lang.specs.declared.table.TheConstants.{QUESTION}

-- the place of a kind among the kinds: the state in which a question of that kind begins
abbrev pub form_number : Form → ℕ
form_number Reach = 0
form_number Isolate = 1
form_number Waypoint = 2
form_number NoLoop = 3
form_number NoBlackHole = 4
form_number Within = 5
form_number Alike = 6
form_number NoStable = 7

-- the kind that a word names, in any case
unfoldable pub form_named : List ℕ → Option Form
form_named word = option_map (λ name. name.1) (find (λ name. is_key name.0 word) FORM_NAMES)

-- the kind of a line's question is named by its second word
abbrev pub form_of : List (List ℕ) → Option Form
form_of words = option_and_then form_named (slice_get words 1)

-- what the words of a question of the kind say, from the first on, or which word is bad
unfoldable pub words_said : Form → List (List ℕ) → Result (List Said) Cause
words_said form words = read_from QUESTION (form_number form) [] 0 words
