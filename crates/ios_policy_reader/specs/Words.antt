-- Keywords and numbers in configuration lines (Cisco IOS command references).
use Rattle.std.specs.Prelude.{ℕ, ◌+◌, ◌*◌, ◌==◌, Bool, List, [], ◌∷◌, length, map, take, position, unwrap_or, nat_le}
use Rattle.std.specs.Prelude.{Option, Some, None, codes, option_map, option_and_then, if◌then◌else◌}
use Rattle.std.specs.Option.{option_map_or, option_or}
use Rattle.std.specs.Char.{to_ascii_lowercase}
use Rattle.ios_policy_reader.specs.declared.words.PortName.{PortName}
use Rattle.ios_policy_reader.specs.declared.words.TheConstants.{PORT_NAMES}
use Rattle.mw_text.specs.Digits.{number_of, cut_at}
use Rattle.mw_text.specs.Text.{same_text}

-- the word is that keyword, which stands in lower case, in any case
abbrev pub is_keyword : List ℕ → List ℕ → Bool
is_keyword keyword word = same_text (map to_ascii_lowercase word) keyword

-- what stands before the blanks that fill up a word of a table
abbrev pub keyword_of : List ℕ → List ℕ
keyword_of key = take (unwrap_or (position (λ b. b == 32) key) (length key)) key

-- the word is that word of a table, in any case
abbrev pub is_key : List ℕ → List ℕ → Bool
is_key key word = is_keyword (map to_ascii_lowercase (keyword_of key)) word

-- the number that the word writes, from the low one to the high one
abbrev pub number_from : ℕ → ℕ → List ℕ → Option ℕ
number_from low high word = option_and_then (λ n. if nat_le low n then Some n else None) (number_of high word)

-- two halves, the upper one first
abbrev pub halves_of : List ℕ × List ℕ → Option ℕ
halves_of pair =
    option_and_then
    (λ high. option_and_then (λ low. Some (high * 65536 + low)) (number_of 65535 pair.1))
    (number_of 65535 pair.0)

-- a community: a number, or two halves with a colon between them (RFC 1997)
abbrev pub community_of : List ℕ → Option ℕ
community_of word = option_map_or halves_of (cut_at 58 word) (number_from 0 4294967295 word)

-- the port of a name among these
abbrev pub port_among : List ℕ → List PortName → Option ℕ
port_among word [] = None
port_among word (name ∷ rest) = if is_key name.0 word then Some name.1 else port_among word rest

-- a port: a name (IANA), or a number
unfoldable pub port_of : List ℕ → Option ℕ
port_of word = option_or (port_among word PORT_NAMES) (number_from 0 65535 word)

-- a port that is not below another one
abbrev pub port_from : ℕ → List ℕ → Option ℕ
port_from low word = option_and_then (λ n. if nat_le low n then Some n else None) (port_of word)

-- two ports by their numbers, the first not above the second
abbrev pub port_range : List ℕ × List ℕ → Option (ℕ × ℕ)
port_range pair =
    option_and_then
    (λ low. option_and_then (λ high. if nat_le low high then Some (low, high) else None) (number_of 65535 pair.1))
    (number_of 65535 pair.0)

-- ports from the first to the second: `any`, one port, or two with '-' between them
unfoldable pub ports_of : List ℕ → Option (ℕ × ℕ)
ports_of word =
    if is_keyword (codes "any") word then Some (0, 65535)
    else option_map_or port_range (cut_at 45 word) (option_map (λ n. (n, n)) (port_of word))
