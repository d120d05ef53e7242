-- The words of the command.
use Rattle.std.specs.Prelude.{ℕ, ◌&&◌, nat_lt, List, [], ◌∷◌, Option, Some, None, codes, length, map, option_and_then}
use Rattle.std.specs.Prelude.{option_map, string_bytes, take, drop, if◌then◌else◌}
use Rattle.mw_text.specs.Digits.{number_of}
use Rattle.mw_text.specs.Text.{same_text}
use Rattle.clap.specs.Words.{App, Row, Text, first_of, with_rule}
use Rattle.mw_words.specs.Asked.{value_of, values_of}
use Rattle.mw_words.specs.Forms.{bare_app, conflicts_rule, many_rule, rows_due, single_rule}
use Rattle.run_inputs.specs.Due.{budget_of}
use Rattle.compare_words.specs.declared.words.Asked.{Asked}
use Rattle.compare_words.specs.declared.words.Parts.{Parts}
use Rattle.compare_words.specs.declared.words.TheConstants.{MOST_COUNT}

-- the names of the configurations of the left network, and of the right one
pub record Sides : Type 0 where
  pub left : List Text
  pub right : List Text

-- what is asked for: how many clauses a search may learn, and the names of the asks and of the configurations
pub record Asking : Type 0 where
  pub budget : ℕ
  pub asks : Text
  pub sides : Sides

-- compare [--conflicts C] COUNT ASKS CONFIG...
abbrev pub compare_app : App
compare_app =
    with_rule (with_rule (with_rule (with_rule (bare_app (codes "compare")) conflicts_rule)
    (single_rule (codes "count"))) (single_rule (codes "asks"))) (many_rule (codes "config"))

-- how many of so many configurations are the left network's: one at least, so that one at least is left
abbrev pub count_in : Text → ℕ → Option ℕ
count_in word configs =
    option_and_then (λ count. if nat_lt 0 count && nat_lt count configs then Some count else None)
    (number_of MOST_COUNT word)

-- the first so many of the names, and the others
abbrev pub parted : ℕ → List Text → Sides
parted count configs = record { left = take count configs; right = drop count configs }

-- with so many clauses, by the values of the other arguments; nothing where the count is out of its range
abbrev pub asked_by : ℕ → List Row → Option Asking
asked_by budget rows = option_map (λ count. record {
  budget = budget;
  asks = value_of (codes "asks") rows;
  sides = parted count (values_of (codes "config") rows);
}) (count_in (value_of (codes "count") rows) (length (values_of (codes "config") rows)))

abbrev pub asked_in : List Row → Option Asking
asked_in rows = option_and_then (λ budget. asked_by budget rows) (budget_of (first_of (codes "conflicts") rows))

-- by the words of this command; nothing where they are refused
abbrev pub asked_by_words : List Text → Option Asking
asked_by_words words = option_and_then asked_in (rows_due compare_app words)

-- by all words, of which the first is the command
unfoldable pub asked_of : List Text → Option Asking
asked_of [] = None
asked_of (command ∷ rest) =
    if same_text command (codes "compare") then asked_by_words (command ∷ rest) else None

-- what the code keeps of it
abbrev pub parts_as : Parts → Sides
parts_as parts = record { left = map string_bytes parts.left.items; right = map string_bytes parts.right.items }

abbrev pub asks : Asked → Asking
asks asked = record { budget = asked.budget; asks = string_bytes asked.asks; sides = parts_as asked.parts }
