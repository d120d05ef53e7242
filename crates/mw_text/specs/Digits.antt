-- Numbers, addresses and prefixes as decimal text (the dotted decimal of RFC 1123, section 2.1).
use Rattle.std.specs.Prelude.{ℕ, ◌+◌, ◌-◌, ◌*◌, ◌==◌, ◌&&◌, ◌||◌, Bool, not, List, length, Option, Some, None, nat_le}
use Rattle.std.specs.Prelude.{nat_lt, take, drop, position, fold, slice_index, option_map, option_and_then}
use Rattle.std.specs.Prelude.{if◌then◌else◌}
use Rattle.std.specs.List.{list_all}
use Rattle.mw_text.specs.Address.{prefix_at}
use Rattle.mw_text.specs.declared.address.Addr.{Addr}
use Rattle.mw_text.specs.declared.address.Prefix.{Prefix}

-- '0' to '9'
abbrev pub is_digit : ℕ → Bool
is_digit b = nat_le 48 b && nat_le b 57

-- the value of decimal digits, the first highest
abbrev pub value_of : List ℕ → ℕ
value_of digits = fold (λ n b. 10 * n + (b - 48)) 0 digits

-- one to most digits
abbrev pub is_numeral : ℕ → List ℕ → Bool
is_numeral most word = nat_lt 0 (length word) && (nat_le (length word) most && list_all is_digit word)

-- a word of 1 to 10 digits, with leading zeros or without, that is at most max
abbrev pub number_of : ℕ → List ℕ → Option ℕ
number_of max word = if is_numeral 10 word && nat_le (value_of word) max then Some (value_of word) else None

-- 1 to 3 digits without a leading zero, at most 255
abbrev pub octet_of : List ℕ → Option ℕ
octet_of word =
    if is_numeral 3 word && ((length word == 1) || not (slice_index word 0 == 48)) && nat_le (value_of word) 255
    then Some (value_of word) else None

-- two octets, the first highest
abbrev pub octets_of : List ℕ → List ℕ → Option ℕ
octets_of first second = option_and_then (λ a. option_map (λ b. a * 256 + b) (octet_of second)) (octet_of first)

-- what stands before and after the first such byte
abbrev pub cut_at : ℕ → List ℕ → Option (List ℕ × List ℕ)
cut_at byte word = option_map (λ i. (take i word, drop (i + 1) word)) (position (λ b. b == byte) word)

infixl 10 ◌>>=◌
abbrev ◌>>=◌ : {A B : Type 0} → Option A → (A → Option B) → Option B
o >>= f = option_and_then f o

-- four octets with dots between them, the first highest
abbrev pub addr_of : List ℕ → Option Addr
addr_of word = do
  a ← cut_at 46 word
  b ← cut_at 46 a.1
  c ← cut_at 46 b.1
  first ← octet_of a.0
  second ← octet_of b.0
  third ← octet_of c.0
  fourth ← octet_of c.1
  Some (record { 0 = ((first * 256 + second) * 256 + third) * 256 + fourth })

-- an address, a slash and a length of at most 32; the bits past the length are cleared
abbrev pub prefix_of_text : List ℕ → Option Prefix
prefix_of_text word = do
  cut ← cut_at 47 word
  addr ← addr_of cut.0
  len ← number_of 32 cut.1
  Some (prefix_at addr len)
