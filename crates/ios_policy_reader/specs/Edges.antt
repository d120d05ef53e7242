-- The grammar of a line as edges between states: what a word says at an edge, and how a line is read along them.
use Rattle.std.specs.Prelude.{ℕ, ◌+◌, ◌==◌, ◌&&◌, Bool, true, false, not, min, List, [], ◌∷◌, ◌++◌, drop, Option, Some}
use Rattle.std.specs.Prelude.{None, Result, Ok, Err, option_map, option_and_then, if◌then◌else◌}
use Rattle.std.specs.Option.{option_map_or, option_or}
use Rattle.std.specs.List.{list_any}
use Rattle.mw_text.specs.declared.address.Addr.{Addr}
use Rattle.mw_text.specs.Words.{words_in}
use Rattle.mw_text.specs.Digits.{addr_of, prefix_of_text}
use Rattle.ios_policy_reader.specs.declared.cause.Cause.{Cause}
use Rattle.ios_policy_reader.specs.declared.cause.Cause.TheVariants.{BadWord}
use Rattle.ios_policy_reader.specs.declared.said.Value.{Value}
use Rattle.ios_policy_reader.specs.declared.said.Value.TheVariants.{Nothing, Number, Address, Length, Prefix, Pattern}
use Rattle.ios_policy_reader.specs.declared.said.Value.TheVariants.{Ports, Word}
use Rattle.ios_policy_reader.specs.declared.said.Said.{Said}
use Rattle.ios_policy_reader.specs.declared.edges.Takes.{Takes}
use Rattle.ios_policy_reader.specs.declared.edges.Takes.TheVariants.{End, Key, Named, Any, Range, AnyName, ListName}
use Rattle.ios_policy_reader.specs.declared.edges.Takes.TheVariants.{RouterName, Interface, AnyAddress, ClassAddress}
use Rattle.ios_policy_reader.specs.declared.edges.Takes.TheVariants.{Mask, MaskOver, AnyPrefix, AnyCommunity, AnyPort}
use Rattle.ios_policy_reader.specs.declared.edges.Takes.TheVariants.{AnyPorts, AnyPattern, Once, PortKey, PortFrom}
use Rattle.ios_policy_reader.specs.declared.edges.Takes.TheVariants.{LengthFrom}
use Rattle.ios_policy_reader.specs.declared.edges.Edge.{Edge}
use Rattle.ios_policy_reader.specs.declared.edges.Way.{Way}
use Rattle.ios_policy_reader.specs.Masks.{mask_from, prefix_under}
use Rattle.ios_policy_reader.specs.Names.{is_name, is_list_name, is_hostname, is_interface}
use Rattle.ios_policy_reader.specs.Patterns.{pattern_of}
use Rattle.ios_policy_reader.specs.Words.{is_key, number_from, community_of, port_of, port_from, ports_of}
use Rattle.ios_policy_reader.specs.Said.{number_under, least_length, has_ports, address_said, is_classful, has_said}

-- ---- one word

abbrev pub nothing_where : Bool → Option Value
nothing_where taken = if taken then Some Nothing else None

abbrev pub word_where : ℕ → Bool → Option Value
word_where at taken = if taken then Some (Word at) else None

abbrev pub address_where : Bool → Addr → Option Value
address_where taken a = if taken then Some (Address a) else None

-- a mask after an address: the prefix, where no bits of the address stand past the mask's
abbrev pub prefix_by : Addr → List ℕ → Option Value
prefix_by a word = option_and_then (λ len. option_map (λ p. Prefix p) (prefix_under a len)) (mask_from 0 word)

-- what a word says where its kind looks back at what was said
unfoldable pub said_back : Takes → List Said → List ℕ → Option Value
said_back MaskOver said word = prefix_by (address_said said) word
said_back (Once key tag) said word = nothing_where (is_key key word && not (has_said tag said))
said_back (PortKey key n) said word = if is_key key word && has_ports said then Some (Number n) else None
said_back (PortFrom tag) said word = option_map (λ n. Number n) (port_from (min (number_under tag said 0) 65535) word)
said_back LengthFrom said word = option_map (λ n. Number n) (number_from (least_length said) 32 word)
said_back _ said word = None

-- what a word says where a word of this kind is to stand, as word number `at` of the line, after what was said
unfoldable pub said_by : Takes → List Said → ℕ → List ℕ → Option Value
said_by End said at word = None
said_by (Key key) said at word = nothing_where (is_key key word)
said_by (Named key n) said at word = if is_key key word then Some (Number n) else None
said_by Any said at word = Some (Word at)
said_by (Range low high) said at word = option_map (λ n. Number n) (number_from low high word)
said_by AnyName said at word = word_where at (is_name word)
said_by ListName said at word = word_where at (is_list_name word)
said_by RouterName said at word = word_where at (is_hostname word)
said_by Interface said at word = word_where at (is_interface word)
said_by AnyAddress said at word = option_map (λ a. Address a) (addr_of word)
said_by ClassAddress said at word = option_and_then (λ a. address_where (is_classful a) a) (addr_of word)
said_by (Mask least) said at word = option_map (λ n. Length n) (mask_from least word)
said_by AnyPrefix said at word = option_map (λ p. Prefix p) (prefix_of_text word)
said_by AnyCommunity said at word = option_map (λ n. Number n) (community_of word)
said_by AnyPort said at word = option_map (λ n. Number n) (port_of word)
said_by AnyPorts said at word = option_map (λ p. Ports p.0 p.1) (ports_of word)
said_by AnyPattern said at word = option_map (λ p. Pattern p) (pattern_of word)
said_by MaskOver said at word = said_back MaskOver said word
said_by (Once key tag) said at word = said_back (Once key tag) said word
said_by (PortKey key n) said at word = said_back (PortKey key n) said word
said_by (PortFrom tag) said at word = said_back (PortFrom tag) said word
said_by LengthFrom said at word = said_back LengthFrom said word

-- a line may end at an edge of this kind
abbrev pub is_end : Takes → Bool
is_end End = true
is_end _ = false

-- ---- words after one another

-- where a word leads along an edge, by what it says
abbrev pub goes : Edge → Value → Way
goes edge v = record { said = record { tag = edge.2; value = v }; to = edge.3 }

-- the way along an edge, where it leaves the state and takes the word
abbrev pub leaves : ℕ → List Said → ℕ → List ℕ → Edge → Option Way
leaves from said at word edge =
    if edge.0 == from then option_map (goes edge) (said_by edge.1 said at word) else None

-- the way along the first edge that leaves the state and takes the word
abbrev pub way_of : ℕ → List Said → ℕ → List ℕ → List Edge → Option Way
way_of from said at word [] = None
way_of from said at word (edge ∷ rest) = option_or (leaves from said at word edge) (way_of from said at word rest)

-- a line may end in the state
abbrev pub ends_in : ℕ → Edge → Bool
ends_in from edge = (edge.0 == from) && is_end edge.1

abbrev pub may_end : List Edge → ℕ → Bool
may_end edges from = list_any (ends_in from) edges

-- What the words of a line say from a state on, after what was said, where `at` words stand before them; or which word
-- is bad: the first one that no way takes, or one more than there are where the line may not end.
abbrev pub read_from : List Edge → ℕ → List Said → ℕ → List (List ℕ) → Result (List Said) Cause
read_from edges from said at [] = if may_end edges from then Ok said else Err (BadWord (at + 1))
read_from edges from said at (word ∷ rest) =
    option_map_or (λ way. read_from edges way.to (said ++ way.said ∷ []) (at + 1) rest)
    (way_of from said at word edges) (Err (BadWord (at + 1)))

-- which word of a text is bad from a state on, after a head of so many words, or 0
abbrev pub bad_word_in : Result (List Said) Cause → ℕ
bad_word_in (Ok said) = 0
bad_word_in (Err (BadWord n)) = n
bad_word_in (Err _) = 0

abbrev pub bad_word_from : List Edge → ℕ → ℕ → List ℕ → ℕ
bad_word_from edges from head text = bad_word_in (read_from edges from [] head (drop head (words_in text)))

abbrev pub bad_word_of : List Edge → ℕ → List ℕ → ℕ
bad_word_of edges head text = bad_word_from edges 0 head text
