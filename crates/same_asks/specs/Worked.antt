-- What single lines read as.
use Rattle.std.specs.Prelude.{ℕ, List, [], ◌∷◌, codes, Option, None, Result, Ok, Err}
use Rattle.mw_text.specs.Words.{words_in}
use Rattle.ios_ast.specs.declared.file.File.{File}
use Rattle.ios_policy_reader.specs.declared.cause.Cause.{Cause}
use Rattle.ios_policy_reader.specs.declared.said.Said.{Said}
use Rattle.ios_policy_reader.specs.Edges.{bad_word_in}
use Rattle.question_lang.specs.Worked.{router_with, three_routers}
use Rattle.same_asks.specs.declared.same.Same.{Same}
use Rattle.same_asks.specs.Asking.{ask_of}
use Rattle.same_asks.specs.Grammar.{words_said}

-- which word of an ask is bad, or 0
abbrev pub bad_word : List ℕ → ℕ
bad_word text = bad_word_in (words_said (words_in text))

-- the routers C, B and A
abbrev pub other_routers : List File
other_routers = router_with (codes "C") [] ∷ router_with (codes "B") [] ∷ router_with (codes "A") [] ∷ []

abbrev pub ask_by : List (List ℕ) → Result (List Said) Cause → Option Same
ask_by words (Ok said) = ask_of three_routers other_routers words said
ask_by words (Err cause) = None

-- what an ask asks of the routers A, B and C on the left, and C, B and A on the right
abbrev pub ask_in_text : List ℕ → Option Same
ask_in_text text = ask_by (words_in text) (words_said (words_in text))
