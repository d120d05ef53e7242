-- Names and numbers that the words of a line say.
use Rattle.std.specs.Prelude.{ℕ, ◌==◌, ◌||◌, Bool, List, [], map, fold, filter, slice_get, unwrap_or, if◌then◌else◌}
use Rattle.std.specs.Fmt.{decimal}
use Rattle.std.specs.Ordering.{nat_cmp}
use Rattle.std.specs.BTreeSet.{insert_key}
use Rattle.ios_ast.specs.declared.file.Use.{Use}
use Rattle.ios_policy_reader.specs.declared.said.Tag.{Tag}
use Rattle.ios_policy_reader.specs.declared.said.Tag.TheVariants.{Name, Number as NumberTag}
use Rattle.ios_policy_reader.specs.declared.said.Value.{Value}
use Rattle.ios_policy_reader.specs.declared.said.Value.TheVariants.{Nothing, Number, Address, Length, Prefix, Pattern}
use Rattle.ios_policy_reader.specs.declared.said.Value.TheVariants.{Ports, Word}
use Rattle.ios_policy_reader.specs.declared.said.Said.{Said}
use Rattle.ios_policy_reader.specs.Said.{tag_number, number_in}

-- ---- names

-- a word of a line, by its place counted from 0
abbrev pub word_at : List (List ℕ) → ℕ → List ℕ
word_at words at = unwrap_or (slice_get words at) []

-- the name that a value is: a word of the line, or a number as its digits
abbrev pub name_in : List (List ℕ) → Value → List ℕ
name_in words Nothing = []
name_in words (Number n) = decimal n
name_in words (Address a) = []
name_in words (Length n) = []
name_in words (Prefix p) = []
name_in words (Pattern p) = []
name_in words (Ports low high) = []
name_in words (Word at) = word_at words at

-- a word that names a list
abbrev pub is_naming : Said → Bool
is_naming s = (tag_number s.tag == tag_number Name) || (tag_number s.tag == tag_number NumberTag)

abbrev pub naming_more : Value → Said → Value
naming_more v s = if is_naming s then s.value else v

-- what was said last as the name of a list
abbrev pub naming_value : List Said → Value
naming_value said = fold naming_more Nothing said

-- the name of the list that a line is about
abbrev pub name_of : List (List ℕ) → List Said → List ℕ
name_of words said = name_in words (naming_value said)

abbrev pub use_of : ℕ → List (List ℕ) → Said → Use
use_of line words s = record { line = line; name = name_in words s.value }

-- the lists that a line uses, in the order of its words
abbrev pub uses_of : ℕ → List (List ℕ) → List Said → List Use
uses_of line words said = map (use_of line words) (filter is_naming said)

-- ---- numbers

-- the numbers that were said under a tag, in the order of the words
abbrev pub numbers_under : Tag → List Said → List ℕ
numbers_under tag said = map (λ s. number_in 0 s.value) (filter (λ s. tag_number s.tag == tag_number tag) said)

-- these numbers, each once and ascending
abbrev pub ascending : List ℕ → List ℕ
ascending numbers = fold (insert_key nat_cmp) [] numbers
