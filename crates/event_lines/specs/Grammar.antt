-- The forms of the lines of an events file, and their grammar.
use Rattle.std.specs.Prelude.{ℕ, ◌+◌, ◌==◌, ◌&&◌, ◌||◌, Bool, List, [], drop, length, min, nat_le, nat_lt, Option}
use Rattle.std.specs.Prelude.{position, take, Ok, Err, Result, if◌then◌else◌}
use Rattle.std.specs.List.{find}
use Rattle.std.specs.Option.{option_map_or}
use Rattle.mw_text.specs.Reading.{following}
use Rattle.ios_policy_reader.specs.declared.cause.Cause.{Cause}
use Rattle.ios_policy_reader.specs.declared.cause.Cause.TheVariants.{BadWord}
use Rattle.ios_policy_reader.specs.declared.said.Said.{Said}
use Rattle.ios_policy_reader.specs.Edges.{read_from}
use Rattle.ios_policy_reader.specs.Values.{word_at}
use Rattle.ios_policy_reader.specs.Words.{is_key}
use Rattle.event_lines.specs.declared.heads.Form.{Form}
use Rattle.event_lines.specs.declared.heads.Form.TheVariants.{Destination, Identify, DeliverBgp, DeliverOspf, Decide}
use Rattle.event_lines.specs.declared.heads.Form.TheVariants.{Announce, Cut, Mend, Run}
use Rattle.event_lines.specs.declared.heads.Head.{Head}
use Rattle.event_lines.specs.declared.heads.TheConstants.{HEADS}
use Rattle.event_lines.specs.declared.table.TheConstants.{BEFORE_COMMUNITIES, EVENT_LINE, MOST_NUMBERS, PATH_WORD}

-- the place of a form among the forms: the state in which a line of that form begins, behind its head
abbrev pub form_number : Form → ℕ
form_number Destination = 0
form_number Identify = 1
form_number DeliverBgp = 2
form_number DeliverOspf = 3
form_number Decide = 4
form_number Announce = 5
form_number Cut = 6
form_number Mend = 7
form_number Run = 8

-- the line begins with the one or two words of the head, in any case
abbrev pub is_head : List (List ℕ) → Head → Bool
is_head words head =
    nat_le head.2 (length words)
    && (is_key head.0 (word_at words 0) && ((head.2 == 1) || is_key head.1 (word_at words 1)))

-- the head with which a line of these words begins
unfoldable pub head_of : List (List ℕ) → Option Head
head_of words = find (is_head words) HEADS

-- how many words a line may have: up to the last number that a path may have, behind the communities of an announcement
abbrev pub most_words : List (List ℕ) → ℕ
most_words words =
    option_map_or (λ at. min (length words) (BEFORE_COMMUNITIES + at + 1 + MOST_NUMBERS))
    (position (is_key PATH_WORD) (drop BEFORE_COMMUNITIES words)) (length words)

-- a word past that number is bad
abbrev pub none_past : ℕ → List (List ℕ) → List Said → Result (List Said) Cause
none_past most words said = if nat_lt most (length words) then Err (BadWord (most + 1)) else Ok said

-- what the words of a line with that head say, or which word is bad
unfoldable pub words_said : Head → List (List ℕ) → Result (List Said) Cause
words_said head words =
    following (none_past (most_words words) words)
    (read_from EVENT_LINE (form_number head.3) [] head.2 (drop head.2 (take (most_words words) words)))
