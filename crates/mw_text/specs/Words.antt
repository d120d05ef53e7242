-- Lines and words of a text.
use Rattle.std.specs.Prelude.{ℕ, ◌+◌, ◌==◌, ◌||◌, ◌&&◌, Bool, true, List, [], ◌∷◌, length, map, filter, nat_lt}
use Rattle.std.specs.Prelude.{slice_index}
use Rattle.std.specs.List.{slice_split}
use Rattle.bstr.specs.Text.{lines_of, without_terminator}
use Rattle.mw_text.specs.declared.words.Line.{Line}

-- a space or a tab
abbrev pub is_blank : ℕ → Bool
is_blank b = (b == 32) || (b == 9)

-- the pieces between blanks that are not empty
abbrev pub words_in : List ℕ → List (List ℕ)
words_in raw = filter (λ w. nat_lt 0 (length w)) (slice_split is_blank raw)

-- the line of that number with these bytes
abbrev pub line_at : ℕ → List ℕ → Line
line_at number raw = record {
  number = number;
  indented = nat_lt 0 (length raw) && is_blank (slice_index raw 0);
  words = words_in raw;
  raw = raw;
}

-- lines with these bytes, numbered upwards
abbrev pub numbered : ℕ → List (List ℕ) → List Line
numbered number [] = []
numbered number (raw ∷ rest) = line_at number raw ∷ numbered (number + 1) rest

-- a line of these words says nothing: there are none, or the first begins with '!'
abbrev pub is_skipped : List (List ℕ) → Bool
is_skipped [] = true
is_skipped (word ∷ rest) = slice_index word 0 == 33

-- the lines of a text, numbered from 1: a line feed ends a line, with one carriage return before it,
-- and bytes after the last line feed are a line as they stand
abbrev pub text_lines : List ℕ → List Line
text_lines bytes = numbered 1 (map without_terminator (lines_of bytes))
