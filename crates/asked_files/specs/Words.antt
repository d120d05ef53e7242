-- The words of a command with a file of its own.
use Rattle.std.specs.Prelude.{ℕ, List, [], ◌∷◌, Option, None, codes, map, option_and_then, option_map, string_bytes}
use Rattle.std.specs.Prelude.{if◌then◌else◌}
use Rattle.mw_text.specs.Text.{same_text}
use Rattle.clap.specs.Words.{App, Row, Text, first_of, with_rule}
use Rattle.mw_words.specs.Asked.{value_of, values_of}
use Rattle.mw_words.specs.Forms.{bare_app, conflicts_rule, many_rule, rows_due, single_rule}
use Rattle.run_inputs.specs.Due.{budget_of}
use Rattle.asked_files.specs.declared.words.Asked.{Asked}

-- what is asked for: how many clauses a search may learn, and the names of the command's own file and of the configurations
pub record Asking : Type 0 where
  pub budget : ℕ
  pub own : Text
  pub configs : List Text

-- NAME [--conflicts N] OWN CONFIG...
abbrev pub own_app : Text → App
own_app name =
    with_rule (with_rule (with_rule (bare_app name) conflicts_rule) (single_rule (codes "own")))
    (many_rule (codes "config"))

-- by the values of the arguments; nothing where the number is out of its range
abbrev pub asked_by : List Row → Option Asking
asked_by rows = option_map (λ budget. record {
  budget = budget;
  own = value_of (codes "own") rows;
  configs = values_of (codes "config") rows;
}) (budget_of (first_of (codes "conflicts") rows))

-- by the words of the command of that name; nothing where they are refused
abbrev pub asked_in : Text → List Text → Option Asking
asked_in name words = option_and_then asked_by (rows_due (own_app name) words)

-- by all words, of which the first is the command
unfoldable pub asked_of : Text → List Text → Option Asking
asked_of name [] = None
asked_of name (command ∷ rest) = if same_text command name then asked_in name (command ∷ rest) else None

-- what the code keeps of it
abbrev pub asking : Asked → Asking
asking asked = record {
  budget = asked.budget;
  own = string_bytes asked.own;
  configs = map string_bytes asked.configs.items;
}
