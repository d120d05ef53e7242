-- The command that the words of the second program begin with.
use Rattle.std.specs.Prelude.{List, [], ◌∷◌, codes, if◌then◌else◌}
use Rattle.mw_text.specs.Text.{same_text}
use Rattle.clap.specs.Words.{Text}
use Rattle.extra_commands.specs.declared.commands.Command.{Command}
use Rattle.extra_commands.specs.declared.commands.Command.TheVariants.{Advert, Compare, Least, Trim, Unknown}

-- by its name; any other first word is none, and so are no words
unfoldable pub command_of : List Text → Command
command_of [] = Unknown
command_of (name ∷ rest) =
    if same_text name (codes "advert") then Advert
    else (if same_text name (codes "compare") then Compare
    else (if same_text name (codes "least") then Least
    else (if same_text name (codes "trim") then Trim else Unknown)))
