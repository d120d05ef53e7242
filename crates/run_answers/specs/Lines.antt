-- The lines of verdicts, and of the size of a network.
use Rattle.std.specs.Prelude.{ℕ, ◌++◌, List, codes}
use Rattle.std.specs.Fmt.{decimal}
use Rattle.question_lang.specs.declared.question.Question.{Question}
use Rattle.run_inputs.specs.Texts.{newline}

-- holds NAME
abbrev pub holds_text : Question → List ℕ
holds_text question = codes "holds " ++ question.name ++ newline

-- unknown NAME after N conflicts
abbrev pub unknown_text : Question → ℕ → List ℕ
unknown_text question after = codes "unknown " ++ question.name ++ codes " after " ++ decimal after
    ++ codes " conflicts" ++ newline

-- routers N links N: a ring has as many links as routers
abbrev pub size_text : ℕ → List ℕ
size_text routers = codes "routers " ++ decimal routers ++ codes " links " ++ decimal routers ++ newline
