-- AS-path patterns as words: six regular expressions (Cisco IOS command references).
use Rattle.std.specs.Prelude.{ℕ, ◌-◌, ◌==◌, ◌&&◌, Bool, List, length, take, drop, slice_index, codes, nat_le, Option}
use Rattle.std.specs.Prelude.{Some, None, option_map, if◌then◌else◌}
use Rattle.mw_text.specs.Text.{same_text}
use Rattle.ios_ast.specs.declared.policies.Pattern.{Pattern}
use Rattle.ios_ast.specs.declared.policies.Pattern.TheVariants.{Empty, Any, Only, First, Last, Has}
use Rattle.ios_policy_reader.specs.Words.{number_from}

-- the word begins and ends with these bytes
abbrev pub is_between : (first last : ℕ) → List ℕ → Bool
is_between first last word =
    nat_le 2 (length word) && (slice_index word 0 == first && slice_index word (length word - 1) == last)

-- the number between the first and the last byte
abbrev pub number_inside : List ℕ → Option ℕ
number_inside word = number_from 1 4294967295 (take (length word - 1 - 1) (drop 1 word))

-- a number between '^' or '_' and '$' or '_'
abbrev pub numbered_pattern : List ℕ → Option Pattern
numbered_pattern word =
    if is_between 94 36 word then option_map (λ n. Only n) (number_inside word)
    else (if is_between 94 95 word then option_map (λ n. First n) (number_inside word)
    else (if is_between 95 36 word then option_map (λ n. Last n) (number_inside word)
    else (if is_between 95 95 word then option_map (λ n. Has n) (number_inside word)
    else None)))

-- `^$`, `.*`, `^N$`, `^N_`, `_N$` or `_N_`
abbrev pub pattern_of : List ℕ → Option Pattern
pattern_of word =
    if same_text word (codes "^$") then Some Empty
    else (if same_text word (codes ".*") then Some Any
    else numbered_pattern word)
