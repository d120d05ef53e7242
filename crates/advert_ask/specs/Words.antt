-- The words of the command.
use Rattle.std.specs.Prelude.{List, Option, codes}
use Rattle.clap.specs.Words.{Text}
use Rattle.asked_files.specs.Words.{Asking, asked_of as asked_under}

-- what words ask for as advert [--conflicts N] ASKS CONFIG..., of which the asks are the command's own file
abbrev pub asked_of : List Text → Option Asking
asked_of words = asked_under (codes "advert") words
