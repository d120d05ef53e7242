-- The counterexamples in what was printed.
use Rattle.std.specs.Prelude.{ℕ, ◌==◌, ◌||◌, Bool, false, List, [], ◌∷◌, ◌++◌, codes, filter, map, if◌then◌else◌}
use Rattle.std.specs.Fmt.{decimal}
use Rattle.std.specs.List.{list_any}
use Rattle.mw_text.specs.declared.words.Line.{Line}
use Rattle.mw_text.specs.Text.{same_text}
use Rattle.mw_text.specs.Words.{text_lines}
use Rattle.run_inputs.specs.declared.text.Text.{Text}

-- the first word of a verdict's line
abbrev pub is_verdict_word : List ℕ → Bool
is_verdict_word word =
    same_text word (codes "holds") || (same_text word (codes "broken") || same_text word (codes "unknown"))

abbrev pub is_verdict : Line → Bool
is_verdict line = by_words line.words where
  by_words : List (List ℕ) → Bool
  by_words [] = false
  by_words (word ∷ rest) = is_verdict_word word

-- a line that begins with a brace is a counterexample's
abbrev pub is_told : Line → Bool
is_told line = by_bytes line.raw where
  by_bytes : List ℕ → Bool
  by_bytes [] = false
  by_bytes (byte ∷ rest) = byte == 123

-- the counterexample of a line, under the name of the text and the line's number
abbrev pub piece_of : List ℕ → Line → Text
piece_of name line = record { name = name ++ codes ":" ++ decimal line.number; bytes = line.raw }

-- those in a text: where it has the line of a verdict, each line of it that begins with a brace; else the text itself
abbrev pub told_in : Text → List Text
told_in text =
    if list_any is_verdict (text_lines text.bytes) then
    map (piece_of text.name) (filter is_told (text_lines text.bytes)) else text ∷ []
