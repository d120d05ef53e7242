-- The grammar of asks.
use Rattle.std.specs.Prelude.{ℕ, Bool, false, List, [], Result, slice_get}
use Rattle.std.specs.Option.{option_map_or}
use Rattle.ios_policy_reader.specs.declared.cause.Cause.{Cause}
use Rattle.ios_policy_reader.specs.declared.said.Said.{Said}
use Rattle.ios_policy_reader.specs.Edges.{read_from}
use Rattle.ios_policy_reader.specs.Words.{is_key}
use Rattle.same_asks.specs.declared.table.TheConstants.{ASK, SAME}

-- the second word of the line is `same`, in any case
abbrev pub is_ask : List (List ℕ) → Bool
is_ask words = option_map_or (λ word. is_key SAME word) (slice_get words 1) false

-- what the words of an ask say, from the first on, or which word is bad
unfoldable pub words_said : List (List ℕ) → Result (List Said) Cause
words_said words = read_from ASK 0 [] 0 words
