-- A question with another number of links that may fail.
use Rattle.std.specs.Prelude.{ℕ, ◌<◌, ◌++◌, List, codes}
use Rattle.std.specs.Fmt.{decimal}
use Rattle.ios_ast.specs.declared.file.File.{File}
use Rattle.question_lang.specs.Breaking.{IsUnbroken}
use Rattle.question_lang.specs.declared.question.Question.{Question}

-- the question with k for the greatest number of links that may fail, under the name NAME@k, that of its section of the
-- log
abbrev pub trial : ℕ → Question → Question
trial k question = record {
  name = question.name ++ codes "@" ++ decimal k;
  kind = question.kind;
  packets = question.packets;
  failures = k;
}

-- no packet, environment and set of at most k failed links has a stable routing that breaks the question
abbrev pub Survives : List File → Question → ℕ → Type 0
Survives files question k = IsUnbroken files (trial k question)

-- none of fewer than k has one
abbrev pub SurvivesFewer : List File → Question → ℕ → Type 0
SurvivesFewer files question k = (fewer : ℕ) → fewer < k → Survives files question fewer
