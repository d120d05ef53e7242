-- Words that are names (Cisco IOS command references).
use Rattle.std.specs.Prelude.{ℕ, ◌==◌, ◌&&◌, ◌||◌, Bool, not, List, length, take, drop, nat_lt, nat_le, codes}
use Rattle.std.specs.List.{list_all}
use Rattle.mw_text.specs.Digits.{is_digit}
use Rattle.ios_policy_reader.specs.Words.{is_keyword}

-- '!' to '~'
abbrev pub is_printable : ℕ → Bool
is_printable b = nat_lt 32 b && nat_lt b 127

-- 1 to 64 printable bytes
abbrev pub is_name : List ℕ → Bool
is_name word = nat_lt 0 (length word) && (nat_le (length word) 64 && list_all is_printable word)

-- a name that is not all digits
abbrev pub is_list_name : List ℕ → Bool
is_list_name word = is_name word && not (list_all is_digit word)

-- 'a' to 'z' and 'A' to 'Z'
abbrev pub is_letter : ℕ → Bool
is_letter b = (nat_le 65 b && nat_le b 90) || (nat_le 97 b && nat_le b 122)

-- a letter, a digit, '-', '_' or '.'
abbrev pub is_name_byte : ℕ → Bool
is_name_byte b = is_letter b || is_digit b || (b == 45) || (b == 95) || (b == 46)

-- 1 to 64 of these
abbrev pub is_hostname : List ℕ → Bool
is_hostname word = nat_lt 0 (length word) && (nat_le (length word) 64 && list_all is_name_byte word)

-- a digit, '/' or '.'
abbrev pub is_place_byte : ℕ → Bool
is_place_byte b = is_digit b || (b == 47) || (b == 46)

-- the kind in any case, and then one or more digits, '/' and '.'
abbrev pub is_of_kind : List ℕ → List ℕ → Bool
is_of_kind kind word =
    nat_lt (length kind) (length word)
    && (is_keyword kind (take (length kind) word) && list_all is_place_byte (drop (length kind) word))

-- the name of an Ethernet interface, of an interface
abbrev pub is_ethernet : List ℕ → Bool
is_ethernet word =
    is_of_kind (codes "ethernet") word || is_of_kind (codes "fastethernet") word
    || is_of_kind (codes "gigabitethernet") word || is_of_kind (codes "tengigabitethernet") word

abbrev pub is_interface : List ℕ → Bool
is_interface word =
    is_ethernet word || is_of_kind (codes "serial") word || is_of_kind (codes "vlan") word
    || is_of_kind (codes "loopback") word
