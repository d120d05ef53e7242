-- What the lines of an asks file ask of two networks.
use Rattle.std.specs.Prelude.{ℕ, ◌<◌, ◌&&◌, Bool, not, nat_le, List, [], ◌∷◌, ◌++◌, All, length, Option, Some, None}
use Rattle.std.specs.Prelude.{Result, Ok}
use Rattle.std.specs.Prelude.{Err, option_and_then, option_map, if◌then◌else◌}
use Rattle.std.specs.List.{list_any}
use Rattle.std.specs.Option.{option_map_or}
use Rattle.mw_text.specs.declared.words.Line.{Line}
use Rattle.mw_text.specs.Reading.{following, in_turn}
use Rattle.mw_text.specs.Text.{same_text}
use Rattle.mw_text.specs.Words.{is_skipped, text_lines}
use Rattle.ios_ast.specs.declared.file.File.{File}
use Rattle.ios_policy_reader.specs.declared.cause.Cause.{Cause}
use Rattle.ios_policy_reader.specs.declared.cause.Cause.TheVariants.{UnknownCommand, Repeated, UnknownRouter}
use Rattle.ios_policy_reader.specs.declared.cause.Cause.TheVariants.{TooManyQuestions}
use Rattle.ios_policy_reader.specs.declared.cause.Refused.{Refused}
use Rattle.ios_policy_reader.specs.declared.said.Said.{Said}
use Rattle.ios_policy_reader.specs.declared.said.Tag.TheVariants.{Name, Start, Failures}
use Rattle.ios_policy_reader.specs.Said.{number_under}
use Rattle.question_lang.specs.Asking.{refused_at}
use Rattle.question_lang.specs.Naming.{are_routers_known, router_under, set_of, word_under}
use Rattle.same_asks.specs.declared.reader.TheConstants.{MOST_ASKS}
use Rattle.same_asks.specs.declared.same.Same.{Same}
use Rattle.same_asks.specs.Grammar.{is_ask, words_said}

-- ---- one ask

-- with the places of the router in the two networks
abbrev pub ask_with : List (List ℕ) → List Said → ℕ → ℕ → Same
ask_with words said left right = record {
  name = word_under Name words said;
  left = left;
  right = right;
  packets = set_of said;
  failures = number_under Failures said 0;
}

-- the ask that the words make
abbrev pub ask_of : List File → List File → List (List ℕ) → List Said → Option Same
ask_of left right words said =
    option_and_then (λ one. option_map (ask_with words said one) (router_under Start right words said))
    (router_under Start left words said)

-- an ask has that name
abbrev pub has_name : List Same → List ℕ → Bool
has_name asks name = list_any (λ a. same_text a.name name) asks

-- both networks have the routers that the words name
abbrev pub are_known_in : List File → List File → List (List ℕ) → List Said → Bool
are_known_in left right words said = are_routers_known left words said && are_routers_known right words said

-- Why an ask that reads well may not stand after these, by the first of the causes: its name stands before, it names a
-- router that one of the networks does not have, it is one too many. Or none of these.
abbrev pub cause_against : List File → List File → List Same → List (List ℕ) → List Said → Option Cause
cause_against left right so_far words said =
    if has_name so_far (word_under Name words said) then Some Repeated
    else (if not (are_known_in left right words said) then Some UnknownRouter
    else (if nat_le MOST_ASKS (length so_far) then Some TooManyQuestions else None))

-- The ask that the words make after these, or why it may not stand there. The router is known in both networks then.
unfoldable pub asked : List File → List File → List Same → List (List ℕ) → List Said → Result Same Cause
asked left right so_far words said =
    option_map_or (λ cause. Err cause)
    (cause_against left right so_far words said)
    (option_map_or (λ ask. Ok ask) (ask_of left right words said) (Err UnknownRouter))

-- the ask of a line of these words after the asks before, or why it has none: it is no ask, a word is bad, or the ask
-- may not stand there
unfoldable pub ask_in : List File → List File → List Same → List (List ℕ) → Result Same Cause
ask_in left right so_far words =
    if is_ask words then following (asked left right so_far words) (words_said words) else Err UnknownCommand

-- ---- all lines

-- the ask of a line after the asks before, or the refusal there
abbrev pub ask_at : List File → List File → List Same → Line → Result Same Refused
ask_at left right so_far line = refused_at line.number (ask_in left right so_far line.words)

-- the asks with a line more, or its refusal; a line that says nothing asks nothing
unfoldable pub next_asked : List File → List File → List Same → Line → Result (List Same) Refused
next_asked left right so_far line =
    if is_skipped line.words then Ok so_far
    else following (λ ask. Ok (so_far ++ ask ∷ [])) (ask_at left right so_far line)

-- the asks that a text reads as, over the files of two networks, or the refusal of its first line that has one
abbrev pub asking : List File → List File → List ℕ → Result (List Same) Refused
asking left right bytes = in_turn (next_asked left right) [] (text_lines bytes)

-- ---- that the router is there

-- the places are those of routers of the two networks
pub record IsKnown (left right : List File) (ask : Same) : Type 0 where
  pub one : ask.left < length left
  pub other : ask.right < length right

abbrev pub AreKnown : List File → List File → List Same → Type 0
AreKnown left right asks = All (IsKnown left right) asks
