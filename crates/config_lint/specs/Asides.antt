-- Which lines are left aside with a refused one, and the text without them.
use Rattle.std.specs.Prelude.{ℕ, suc, ◌≡◌, ◌<◌, ◌+◌, ◌-◌, ◌==◌, ◌&&◌, ◌||◌, Bool, true, false, not, List, [], ◌∷◌, length, map, drop}
use Rattle.std.specs.Prelude.{position, take_while, slice_get, slice_index_or, Some, codes, nat_lt, nat_le, unwrap_or, if◌then◌else◌}
use Rattle.std.specs.List.{flat_map, list_any, range_with_len, zip}
use Rattle.std.specs.Option.{option_map_or}
use Rattle.bstr.specs.Text.{lines_of as pieces_in}
use Rattle.mw_text.specs.declared.words.Line.{Line}
use Rattle.mw_text.specs.Text.{same_text}
use Rattle.mw_text.specs.Words.{is_blank, is_skipped, text_lines}
use Rattle.ios_policy_reader.specs.declared.cause.Refused.{Refused}
use Rattle.config_prepare.specs.Kinds.{begins}

-- how many blanks a line begins with
abbrev pub depth : List ℕ → ℕ
depth raw = unwrap_or (position (λ b. not (is_blank b)) raw) (length raw)

-- a line in the block that another one opens: it begins with more blanks, or says nothing
abbrev pub is_deeper : Line → Line → Bool
is_deeper line other = is_skipped other.words || nat_lt (depth line.raw) (depth other.raw)

-- how many of the lines after a line its block has: as far as its sub-lines go
abbrev pub block_size : Line → List Line → ℕ
block_size line rest = length (take_while (is_deeper line) rest)

-- the word after the first
abbrev pub second_word : Line → List ℕ
second_word line = unwrap_or (slice_get line.words 1) []

-- a line on the neighbour that another line names by `remote-as`
abbrev pub is_of_neighbour : Line → Line → Bool
is_of_neighbour line other =
    begins (codes "neighbor * remote-as") line.words && begins (codes "neighbor") other.words
    && same_text (second_word line) (second_word other)

-- line k goes with line n, whose block ends at a line: it is that line, or in its block, or a later line on the
-- neighbour that it names
abbrev pub with_line : Line → ℕ → ℕ → Line → ℕ → Bool
with_line line n end other k = (k == n) || nat_lt n k && (nat_le k end || is_of_neighbour line other)

-- line k is left aside with line n, which is refused
abbrev pub goes_with : List Line → ℕ → ℕ → Bool
goes_with lines n k =
    option_map_or
    (λ line. option_map_or (λ other. with_line line n (n + block_size line (drop n lines)) other k)
    (slice_get lines (k - 1)) false)
    (slice_get lines (n - 1)) false

-- line k is left aside with one of these
abbrev pub is_aside : List Line → List Refused → ℕ → Bool
is_aside lines told k = list_any (λ refused. goes_with lines refused.line k) told

-- for each line whether it is left aside
abbrev pub asides : List Line → List Refused → List Bool
asides lines told = map (λ k. is_aside lines told (k + 1)) (range_with_len 0 (length lines))

-- a line with what ends it, or an empty line
abbrev pub cut_line : List ℕ × Bool → List ℕ
cut_line pair = if pair.1 then 10 ∷ [] else pair.0

abbrev pub cut_lines : List (List ℕ) → List Bool → List ℕ
cut_lines lines flags = flat_map cut_line (zip lines flags)

-- the text in which exactly the lines that go with these are empty: every other line keeps its bytes and its number
abbrev pub without : List ℕ → List Refused → List ℕ
without bytes told = cut_lines (pieces_in bytes) (asides (text_lines bytes) told)

-- ---- signs of lines

-- each sign is set where it was, and where its line goes with line n, whose block ends at a line
abbrev pub EachIsWith : List Line → Line → ℕ → ℕ → List Bool → List Bool → Type 0
EachIsWith lines line n end old new = (k : ℕ) (other : Line) → slice_get lines k ≡ Some other →
    slice_index_or new k false ≡ slice_index_or old k false || with_line line n end other (k + 1)

-- each sign is set where it was, and where its line goes with line n
abbrev pub EachGoesWith : List Line → ℕ → List Bool → List Bool → Type 0
EachGoesWith lines n old new = (k : ℕ) → k < length lines →
    slice_index_or new k false ≡ slice_index_or old k false || goes_with lines n (k + 1)

-- how many signs are not set
abbrev pub unset : List Bool → ℕ
unset [] = 0
unset (true ∷ rest) = unset rest
unset (false ∷ rest) = suc (unset rest)
