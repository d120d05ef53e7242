-- That a bad word is the first one: the words before it begin a line of the row, and with it they begin none.
use Rattle.std.specs.Prelude.{ℕ, zero, suc, ◌≡◌, ◌+◌, ◌/◌, ◌%◌, ◌<◌, ◌≤◌, ◌==◌, ◌&&◌, ◌||◌, Bool, true, false, List}
use Rattle.std.specs.Prelude.{[], ◌∷◌, ◌++◌, length, map, take, codes, Option, Some, None, is_some, Ok, if◌then◌else◌}
use Rattle.std.specs.List.{list_all}
use Rattle.std.specs.Option.{option_map_or}
use Rattle.ios_policy_reader.specs.declared.said.Said.{Said}
use Rattle.ios_policy_reader.specs.declared.edges.Takes.{Takes}
use Rattle.ios_policy_reader.specs.declared.edges.Takes.TheVariants.{End, Key, Named, Range, AnyName, ListName}
use Rattle.ios_policy_reader.specs.declared.edges.Takes.TheVariants.{RouterName, Interface, AnyAddress, ClassAddress}
use Rattle.ios_policy_reader.specs.declared.edges.Takes.TheVariants.{Mask, MaskOver, AnyPrefix, AnyCommunity, AnyPort}
use Rattle.ios_policy_reader.specs.declared.edges.Takes.TheVariants.{AnyPorts, AnyPattern, Once, PortKey, PortFrom}
use Rattle.ios_policy_reader.specs.declared.edges.Takes.TheVariants.{LengthFrom}
use Rattle.ios_policy_reader.specs.declared.edges.Edge.{Edge}
use Rattle.ios_policy_reader.specs.Words.{keyword_of}
use Rattle.ios_policy_reader.specs.Edges.{said_by, may_end, read_from}

-- some words after these make a line, from a state on and after what was said, where `at` words stand before
abbrev pub BeginsFrom : List Edge → ℕ → List Said → ℕ → List (List ℕ) → Type 0
BeginsFrom edges from said at words = (more : List (List ℕ)) × (end : List Said)
    × (read_from edges from said at (words ++ more) ≡ Ok end)

-- Of the words from a state on the first ones, as many as are good, begin a line. With one word more they begin none,
-- or there is no word more.
pub record IsFirstBadFrom (edges : List Edge) (from : ℕ) (said : List Said) (at : ℕ) (words : List (List ℕ))
    (n : ℕ) : Type 0 where
  pub good : ℕ
  pub place : n ≡ at + good + 1
  pub within : good ≤ length words
  pub before : BeginsFrom edges from said at (take good words)
  pub none : good < length words → BeginsFrom edges from said at (take (suc good) words) → ⊥

-- the words after a head, from a state on
abbrev pub IsFirstBad : List Edge → ℕ → ℕ → List (List ℕ) → ℕ → Type 0
IsFirstBad edges from head words n = IsFirstBadFrom edges from [] head words n

-- ---- which tables have no dead end

-- the decimal digit of that unit, as a byte
abbrev pub digit_of : ℕ → ℕ → ℕ
digit_of n unit = 48 + n / unit % 10

-- ten digits of a number below 10 ^ 10
abbrev pub ten_digits : ℕ → List ℕ
ten_digits n = map (digit_of n) (1000000000 ∷ 100000000 ∷ 10000000 ∷ 1000000 ∷ 100000 ∷ 10000 ∷ 1000 ∷ 100 ∷ 10 ∷ 1
    ∷ [])

-- a word of the kind
abbrev pub sample : Takes → List ℕ
sample (Key key) = keyword_of key
sample (Named key n) = keyword_of key
sample (Range low high) = ten_digits low
sample AnyName = codes "a"
sample ListName = codes "a"
sample RouterName = codes "a"
sample Interface = codes "vlan1"
sample AnyAddress = codes "0.0.0.0"
sample ClassAddress = codes "0.0.0.0"
sample (Mask least) = codes "255.255.255.255"
sample MaskOver = codes "255.255.255.255"
sample AnyPrefix = codes "0.0.0.0/0"
sample AnyCommunity = codes "0"
sample AnyPort = codes "0"
sample AnyPorts = codes "any"
sample AnyPattern = codes "^$"
sample (PortFrom tag) = codes "65535"
sample LengthFrom = codes "32"
sample _ = []

-- a kind that takes its sample whatever was said
unfoldable pub opens : Takes → Bool
opens End = false
opens (Once key tag) = false
opens (PortKey key n) = false
opens MaskOver = true
opens (PortFrom tag) = true
opens LengthFrom = true
opens takes = is_some (said_by takes [] 0 (sample takes))

-- the first edge that leaves the state
abbrev pub first_from : ℕ → List Edge → Option Edge
first_from from [] = None
first_from from (edge ∷ rest) = if edge.0 == from then Some edge else first_from from rest

-- the line may end in the state, or whatever was said it comes to such a state by samples, along at most so many first
-- edges
unfoldable pub closes : ℕ → List Edge → ℕ → Bool
closes zero edges from = false
closes (suc steps) edges from =
    may_end edges from
    || option_map_or (λ edge. opens edge.1 && closes steps edges edge.3) (first_from from edges) false

-- no state from which no line ends, that one among them
abbrev pub no_dead_end : List Edge → ℕ → Bool
no_dead_end edges from = closes 24 edges from && list_all (λ edge. closes 24 edges edge.3) edges
