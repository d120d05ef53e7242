-- The words of the command.
use Rattle.std.specs.Prelude.{List, [], ◌∷◌, Option, None, codes, option_map, if◌then◌else◌}
use Rattle.mw_text.specs.Text.{same_text}
use Rattle.clap.specs.Words.{App, Text, with_rule}
use Rattle.mw_words.specs.Asked.{value_of}
use Rattle.mw_words.specs.Forms.{bare_app, rows_due, single_rule}

-- trim LOG
abbrev pub trim_app : App
trim_app = with_rule (bare_app (codes "trim")) (single_rule (codes "log"))

-- the name of the log, where the words are this command
unfoldable pub log_named : List Text → Option Text
log_named [] = None
log_named (command ∷ rest) =
    if same_text command (codes "trim") then option_map (value_of (codes "log")) (rows_due trim_app (command ∷ rest))
    else None
