-- The lines of what is found.
use Rattle.std.specs.Prelude.{ℕ, ◌++◌, List, codes}
use Rattle.std.specs.Fmt.{decimal}
use Rattle.cex_json.specs.declared.counterexample.Counterexample.{Counterexample}
use Rattle.cex_json.specs.Text.{cex_text}
use Rattle.ios_ast.specs.declared.file.File.{File}
use Rattle.question_lang.specs.declared.question.Question.{Question}
use Rattle.run_inputs.specs.Texts.{newline}
use Rattle.least_failures.specs.declared.outcome.Least.{Least}
use Rattle.least_failures.specs.declared.outcome.Least.TheVariants.{At, NoneUpTo, Unknown}

-- least NAME k, with the counterexample on a line of its own
abbrev pub at_text : List File → List Question → Question → ℕ → Counterexample → List ℕ
at_text files questions question k cex =
    codes "least " ++ question.name ++ codes " " ++ decimal k ++ newline ++ cex_text files questions cex ++ newline

-- none NAME up to K
abbrev pub none_text : Question → ℕ → List ℕ
none_text question k = codes "none " ++ question.name ++ codes " up to " ++ decimal k ++ newline

-- unknown NAME at k after N conflicts, where N is written so
abbrev pub unknown_with : Question → ℕ → List ℕ → List ℕ
unknown_with question k learnt =
    codes "unknown " ++ question.name ++ codes " at " ++ decimal k ++ codes " after " ++ learnt
    ++ codes " conflicts" ++ newline

abbrev pub unknown_text : Question → ℕ → ℕ → List ℕ
unknown_text question k after = unknown_with question k (decimal after)

-- the lines of what is found of a question, for which so many clauses may be learnt
abbrev pub least_text : List File → List Question → Question → ℕ → Least → List ℕ
least_text files questions question budget (At k cex) = at_text files questions question k cex
least_text files questions question budget (NoneUpTo k) = none_text question k
least_text files questions question budget (Unknown k) = unknown_text question k budget
