-- What is said of a refusal: the kind of its line, and the line of the refusal.
use Rattle.std.specs.Prelude.{ℕ, ◌-◌, List, [], ◌∷◌, ◌++◌, codes, slice_get, Option, Some, None, if◌then◌else◌}
use Rattle.std.specs.Option.{option_map_or}
use Rattle.mw_text.specs.declared.words.Line.{Line}
use Rattle.mw_text.specs.Words.{text_lines}
use Rattle.ios_policy_reader.specs.declared.heads.Context.TheVariants.{Top}
use Rattle.ios_policy_reader.specs.declared.cause.Cause.{Cause}
use Rattle.ios_policy_reader.specs.declared.cause.Cause.TheVariants.{Repeated, Limit, NoHostname}
use Rattle.ios_policy_reader.specs.declared.cause.Refused.{Refused}
use Rattle.config_prepare.specs.declared.kinds.Kind.{Kind}
use Rattle.config_prepare.specs.declared.kind_table.TheConstants.{KINDS}
use Rattle.config_prepare.specs.declared.places.Block.{Block}
use Rattle.config_prepare.specs.declared.places.Block.TheVariants.{In, LeftOut, Other}
use Rattle.config_prepare.specs.declared.places.Place.{Place}
use Rattle.config_prepare.specs.Kinds.{kind_of, unfilled}
use Rattle.config_prepare.specs.Places.{at_start, place_after}
use Rattle.config_prepare.specs.Prepared.{area_text, class_text}
use Rattle.run_inputs.specs.Texts.{refusal}
use Rattle.run_inputs.specs.declared.text.Text.{Text}
use Rattle.config_lint.specs.declared.labels.Entry.{Entry}

-- where each of these lines stands, of which the first stands there
unfoldable pub places_from : Place → List Line → List Place
places_from place [] = []
places_from place (line ∷ rest) = place ∷ places_from (place_after place line) rest

-- the place in the table of the kind of a sub-line in that block
abbrev pub kind_in : Block → List (List ℕ) → Option ℕ
kind_in (In context) words = kind_of context words
kind_in (LeftOut at) words = Some at
kind_in Other words = None

-- that of a line which stands there
abbrev pub kind_at : Place → Line → Option ℕ
kind_at place line = if line.indented then kind_in place.block line.words else kind_of Top line.words

-- PLACE: WORDS (CLASS: REASON)
abbrev pub known_line : List ℕ → List ℕ → List ℕ → List ℕ → List ℕ
known_line area head class reason =
    area ++ codes ": " ++ head ++ codes " (" ++ class ++ codes ": " ++ reason ++ codes ")"

abbrev pub known_label : Kind → List ℕ
known_label kind = known_line (area_text kind.0) (unfilled kind.1) (class_text kind.2) (unfilled kind.3)

-- where a sub-line in that block stands
abbrev pub block_text : Block → List ℕ
block_text (In context) = area_text context
block_text (LeftOut at) = codes "sub-line"
block_text Other = codes "sub-line"

abbrev pub place_text : Place → Line → List ℕ
place_text place line = if line.indented then block_text place.block else codes "top"

-- the first two words
abbrev pub first_words : List (List ℕ) → List ℕ
first_words [] = []
first_words (word ∷ []) = word
first_words (word ∷ next ∷ rest) = word ++ codes " " ++ next

-- PLACE: WORDS (unknown, which may change the verdict)
abbrev pub unknown_line : List ℕ → List ℕ → List ℕ
unknown_line area words = area ++ codes ": " ++ words ++ codes " (unknown, which may change the verdict)"

-- the kind of a line, as it is said: that of the table, or its first words
abbrev pub kind_label : Option Kind → Place → Line → List ℕ
kind_label (Some kind) place line = known_label kind
kind_label None place line = unknown_line (place_text place line) (first_words line.words)

-- by that table
abbrev pub label_among : List Kind → Place → Line → List ℕ
label_among kinds place line =
    kind_label (option_map_or (λ at. slice_get kinds at) (kind_at place line) None) place line

-- the label of a line at a place, by those of all lines; none where there is no such line
abbrev pub label_at : List Line → List Place → ℕ → List ℕ
label_at lines places at =
    option_map_or (λ line. option_map_or (λ place. label_among KINDS place line) (slice_get places at) [])
    (slice_get lines at) []

-- what is said of a refusal for that cause: the kind of its line, or what the file has too much or too little of
abbrev pub label_by : Cause → List ℕ → List ℕ
label_by Repeated label = codes "lines that may stand once"
label_by Limit label = codes "limits of the profile"
label_by NoHostname label = codes "files without a hostname"
label_by _ label = label

abbrev pub label_of : List Line → List Place → Refused → List ℕ
label_of lines places refused = label_by refused.cause (label_at lines places (refused.line - 1))

-- a refusal of the file of that name, with these lines, which stand there
abbrev pub entry_by : List ℕ → List Line → List Place → Refused → Entry
entry_by name lines places refused =
    record { label = label_of lines places refused; line = refusal name refused }

-- a refusal of that text
abbrev pub entry_of : Text → Refused → Entry
entry_of text = entry_by text.name (text_lines text.bytes) (places_from at_start (text_lines text.bytes))
