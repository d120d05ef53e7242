-- The words of the command.
use Rattle.std.specs.Prelude.{List, Option, codes}
use Rattle.clap.specs.Words.{Text}
use Rattle.asked_files.specs.Words.{Asking, asked_of as asked_under}

-- what words ask for as least [--conflicts N] QUESTIONS CONFIG..., of which the questions are the command's own file
abbrev pub asked_of : List Text → Option Asking
asked_of words = asked_under (codes "least") words
