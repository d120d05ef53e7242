-- The refusals of one file, one after another.
use Rattle.std.specs.Prelude.{ℕ, ◌≡◌, ◌<◌, Bool, true, false, List, [], ◌∷◌, ◌++◌, nat_lt, IsOk, Err}
use Rattle.std.specs.Bool.{MatchBool}
use Rattle.mw_text.specs.Words.{text_lines}
use Rattle.ios_ast.specs.declared.file.TheConstants.{MOST_LINES}
use Rattle.ios_policy_reader.specs.declared.cause.Cause.{Cause}
use Rattle.ios_policy_reader.specs.declared.cause.Cause.TheVariants.{Limit, NoHostname}
use Rattle.ios_policy_reader.specs.declared.cause.Refused.{Refused}
use Rattle.ios_reader.specs.Reading.{reading}
use Rattle.config_lint.specs.Asides.{asides, unset, without}

-- a refusal after which there is nothing to go on with: the file has no hostname, or more lines than a file can have
abbrev pub ends_by : Cause → ℕ → Bool
ends_by NoHostname line = true
ends_by Limit line = nat_lt MOST_LINES line
ends_by _ line = false

abbrev pub is_last : Refused → Bool
is_last refused = ends_by refused.cause refused.line

-- After the first ones these are listed: each is how the reader refuses the text without the lines that go with those
-- before it, and without the lines of all of them the reader takes the text, unless the last is one of a whole file.
unfoldable pub AreListed : List ℕ → List Refused → List Refused → Type 0
AreListed bytes before [] = IsOk (reading (without bytes before))
AreListed bytes before (refused ∷ rest) =
    (reading (without bytes before) ≡ Err refused)
    × MatchBool (is_last refused) (rest ≡ []) (AreListed bytes (before ++ refused ∷ []) rest)

-- what one step of the search does, which goes on or not: it notes the next refusal and leaves its lines aside, or notes
-- the last one, or none
abbrev pub Notes : List ℕ → List Refused → List Refused → List Bool → List Bool → Bool → Type 0
Notes bytes before now old new true = (refused : Refused) × (now ≡ before ++ refused ∷ [])
    × (reading (without bytes before) ≡ Err refused) × (is_last refused ≡ false)
    × (new ≡ asides (text_lines bytes) now) × (unset new < unset old)
Notes bytes before now old new false = (rest : List Refused) × (now ≡ before ++ rest) × AreListed bytes before rest
