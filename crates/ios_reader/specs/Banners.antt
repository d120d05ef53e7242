-- Banners: a text between two delimiters (Cisco IOS command references).
use Rattle.std.specs.Prelude.{ℕ, ◌==◌, ◌&&◌, ◌||◌, Bool, false, not, List, [], ◌∷◌, length, drop, position, slice_get}
use Rattle.std.specs.Prelude.{slice_index, unwrap_or, if◌then◌else◌}
use Rattle.std.specs.List.{list_any}
use Rattle.mw_text.specs.declared.words.Line.{Line}
use Rattle.mw_text.specs.Words.{is_blank}
use Rattle.ios_reader.specs.declared.draft.Delimiter.{Delimiter}
use Rattle.ios_reader.specs.declared.draft.Delimiter.TheVariants.{CaretC, Byte}

-- from the first blank on
abbrev pub after_word : List ℕ → List ℕ
after_word raw = drop (unwrap_or (position is_blank raw) (length raw)) raw

-- from the first byte on that is no blank
abbrev pub after_blanks : List ℕ → List ℕ
after_blanks raw = drop (unwrap_or (position (λ b. not (is_blank b)) raw) (length raw)) raw

-- the text of a banner: from the third word of its line on
abbrev pub banner_text : List ℕ → List ℕ
banner_text raw = after_blanks (after_word (after_blanks (after_word raw)))

-- the text begins with `^C`
abbrev pub begins_caret : List ℕ → Bool
begins_caret text = (slice_index text 0 == 94) && (slice_index text 1 == 67)

-- `^C` stands in the text
abbrev pub has_caret : List ℕ → Bool
has_caret [] = false
has_caret (b ∷ rest) = begins_caret (b ∷ rest) || has_caret rest

-- the delimiter stands in the text
abbrev pub holds : Delimiter → List ℕ → Bool
holds CaretC text = has_caret text
holds (Byte byte) text = list_any (λ b. b == byte) text

-- a text begins with its delimiter: `^C`, or else its first byte
abbrev pub delimiter_of : List ℕ → Delimiter
delimiter_of text = if begins_caret text then CaretC else Byte (unwrap_or (slice_get text 0) 0)

abbrev pub after_delimiter : List ℕ → List ℕ
after_delimiter text = drop (if begins_caret text then 2 else 1) text

-- the delimiter comes again on the banner's own line
abbrev pub ends_on_line : List ℕ → Bool
ends_on_line raw = holds (delimiter_of (banner_text raw)) (after_delimiter (banner_text raw))

-- the delimiter comes in some line
abbrev pub has_end : Delimiter → List Line → Bool
has_end delimiter lines = list_any (λ line. holds delimiter line.raw) lines
