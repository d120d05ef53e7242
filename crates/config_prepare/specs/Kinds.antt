-- Kinds of lines outside the profile (Cisco IOS command references), by the words that their lines begin with.
use Rattle.std.specs.Prelude.{ℕ, ◌-◌, ◌==◌, ◌&&◌, Bool, true, false, List, [], ◌∷◌, length, map, take, position, unwrap_or}
use Rattle.std.specs.Prelude.{slice_get, Option, Some, None, option_and_then, if◌then◌else◌}
use Rattle.std.specs.Option.{option_map_or}
use Rattle.std.specs.Char.{to_ascii_lowercase}
use Rattle.ios_policy_reader.specs.declared.heads.Context.{Context}
use Rattle.ios_policy_reader.specs.Heads.{context_number, is_over, rest_of}
use Rattle.ios_policy_reader.specs.Words.{is_keyword, keyword_of}
use Rattle.config_prepare.specs.declared.kinds.Class.{Class}
use Rattle.config_prepare.specs.declared.kinds.Class.TheVariants.{NoEffect, MayChange, OtherSpelling}
use Rattle.config_prepare.specs.declared.kinds.Kind.{Kind}
use Rattle.config_prepare.specs.declared.kind_table.TheConstants.{KINDS}

-- what stands before the dots that fill up a text of the table
abbrev pub unfilled : List ℕ → List ℕ
unfilled text = take (unwrap_or (position (λ b. b == 46) text) (length text)) text

-- a word of a head that ends in '*' stands for each word that begins with what is before it
abbrev pub is_open : List ℕ → Bool
is_open key = option_map_or (λ b. b == 42) (slice_get key (length key - 1)) false

-- the word begins with those bytes, in any case
abbrev pub begins_so : List ℕ → List ℕ → Bool
begins_so front word = is_keyword (map to_ascii_lowercase front) (take (length front) word)

-- the word is one for which that word of a head stands, in any case
abbrev pub is_like : List ℕ → List ℕ → Bool
is_like key word =
    if is_open key then begins_so (take (length key - 1) key) word else is_keyword (map to_ascii_lowercase key) word

-- the words begin with those of a head, which blanks part
abbrev pub begins : List ℕ → List (List ℕ) → Bool
begins head [] = is_over head
begins head (word ∷ rest) =
    if is_over head then true else if is_like (keyword_of head) word then begins (rest_of head) rest else false

-- a line of these words, which stands there, is of that kind
abbrev pub fits : Context → List (List ℕ) → Kind → Bool
fits context words kind = (context_number kind.0 == context_number context) && begins (unfilled kind.1) words

-- the place in the table of the kind of such a line: of the kinds that fit the first
abbrev pub kind_of : Context → List (List ℕ) → Option ℕ
kind_of context words = position (fits context words) KINDS

-- a class whose lines cannot change which packets are forwarded where
abbrev pub is_no_effect : Class → Bool
is_no_effect NoEffect = true
is_no_effect MayChange = false
is_no_effect OtherSpelling = false

-- the kind at that place among these is of that class
abbrev pub no_effect_at : List Kind → ℕ → Bool
no_effect_at kinds at = option_map_or (λ kind. is_no_effect kind.2) (slice_get kinds at) false

-- the place of the kind by which such a line is left out
abbrev pub left_out_kind : Context → List (List ℕ) → Option ℕ
left_out_kind context words =
    option_and_then (λ at. if no_effect_at KINDS at then Some at else None) (kind_of context words)
