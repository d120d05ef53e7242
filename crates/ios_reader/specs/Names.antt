-- Names that the words of a line say, and lengths of masks, looked up by tags.
use Rattle.std.specs.Prelude.{ℕ, ◌==◌, List, [], fold, slice_get, unwrap_or, Option, Some, None, if◌then◌else◌}
use Rattle.mw_text.specs.declared.words.Line.{Line}
use Rattle.ios_ast.specs.declared.file.Use.{Use}
use Rattle.ios_policy_reader.specs.declared.said.Tag.{Tag}
use Rattle.ios_policy_reader.specs.declared.said.Tag.TheVariants.{Map}
use Rattle.ios_policy_reader.specs.declared.said.Value.{Value}
use Rattle.ios_policy_reader.specs.declared.said.Value.TheVariants.{Nothing, Number, Address, Length, Prefix, Pattern}
use Rattle.ios_policy_reader.specs.declared.said.Value.TheVariants.{Ports, Word}
use Rattle.ios_policy_reader.specs.declared.said.Said.{Said}
use Rattle.ios_policy_reader.specs.Said.{tag_number, has_said}

abbrev pub place_in : ℕ → Value → ℕ
place_in otherwise Nothing = otherwise
place_in otherwise (Number n) = otherwise
place_in otherwise (Address a) = otherwise
place_in otherwise (Length n) = otherwise
place_in otherwise (Prefix p) = otherwise
place_in otherwise (Pattern p) = otherwise
place_in otherwise (Ports low high) = otherwise
place_in otherwise (Word at) = at

abbrev pub place_more : Tag → ℕ → Said → ℕ
place_more tag n s = if tag_number s.tag == tag_number tag then place_in n s.value else n

-- the place of the word that was said last under a tag
abbrev pub place_under : Tag → List Said → ℕ → ℕ
place_under tag said otherwise = fold (place_more tag) otherwise said

-- the word at that place
abbrev pub name_at : List (List ℕ) → ℕ → List ℕ
name_at words at = unwrap_or (slice_get words at) []

-- the name that was said last under a tag
abbrev pub name_under : Tag → List Said → List (List ℕ) → List ℕ
name_under tag said words = name_at words (place_under tag said 0)

abbrev pub use_under : Tag → List Said → Line → Use
use_under tag said line = record { line = line.number; name = name_under tag said line.words }

-- the route map that a line uses, if it uses one
abbrev pub map_under : List Said → Line → Option Use
map_under said line = if has_said Map said then Some (use_under Map said line) else None

abbrev pub length_in : ℕ → Value → ℕ
length_in otherwise Nothing = otherwise
length_in otherwise (Number n) = otherwise
length_in otherwise (Address a) = otherwise
length_in otherwise (Length n) = n
length_in otherwise (Prefix p) = otherwise
length_in otherwise (Pattern p) = otherwise
length_in otherwise (Ports low high) = otherwise
length_in otherwise (Word at) = otherwise

abbrev pub length_more : Tag → ℕ → Said → ℕ
length_more tag n s = if tag_number s.tag == tag_number tag then length_in n s.value else n

-- the length of the mask that was said last under a tag
abbrev pub length_under : Tag → List Said → ℕ → ℕ
length_under tag said otherwise = fold (length_more tag) otherwise said
