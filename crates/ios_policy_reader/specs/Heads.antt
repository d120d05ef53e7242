-- Which row a line is of, and the table of each row.
use Rattle.std.specs.Prelude.{ℕ, ◌+◌, ◌==◌, Bool, true, List, [], ◌∷◌, length, drop, fold, slice_get, nat_lt, Option}
use Rattle.std.specs.Prelude.{Some, None, is_some, Result, Ok, Err, option_map, option_and_then, if◌then◌else◌}
use Rattle.std.specs.Option.{option_map_or}
use Rattle.std.specs.List.{list_any}
use Rattle.ios_policy_reader.specs.declared.cause.Cause.{Cause}
use Rattle.ios_policy_reader.specs.declared.cause.Cause.TheVariants.{OutOfPlace, UnknownCommand}
use Rattle.ios_policy_reader.specs.declared.edges.Edge.{Edge}
use Rattle.ios_policy_reader.specs.declared.said.Said.{Said}
use Rattle.ios_policy_reader.specs.declared.heads.Context.{Context}
use Rattle.ios_policy_reader.specs.declared.heads.Context.TheVariants.{Top, InInterface, InOspf, InBgp, InMap}
use Rattle.ios_policy_reader.specs.declared.heads.Context.TheVariants.{InStandard, InExtended}
use Rattle.ios_policy_reader.specs.declared.heads.Row.{Row}
use Rattle.ios_policy_reader.specs.declared.heads.Row.TheVariants.{Hostname, InterfaceBlock, StaticRoute, OspfBlock}
use Rattle.ios_policy_reader.specs.declared.heads.Row.TheVariants.{BgpBlock, AccessList, StandardBlock, ExtendedBlock}
use Rattle.ios_policy_reader.specs.declared.heads.Row.TheVariants.{PrefixList, CommunityList, PathList, MapBlock}
use Rattle.ios_policy_reader.specs.declared.heads.Row.TheVariants.{Banner, IgnoredBlock, Ignored, Address, NoAddress}
use Rattle.ios_policy_reader.specs.declared.heads.Row.TheVariants.{Shutdown, NoShutdown, Bandwidth, OspfCost}
use Rattle.ios_policy_reader.specs.declared.heads.Row.TheVariants.{AccessGroup, RouterId, OspfNetwork, Passive}
use Rattle.ios_policy_reader.specs.declared.heads.Row.TheVariants.{NoPassive, ReferenceBandwidth, OspfRedistribute}
use Rattle.ios_policy_reader.specs.declared.heads.Row.TheVariants.{Originate, AlwaysCompareMed, CompareRouterId}
use Rattle.ios_policy_reader.specs.declared.heads.Row.TheVariants.{DeterministicMed, BgpNetwork, BgpRedistribute}
use Rattle.ios_policy_reader.specs.declared.heads.Row.TheVariants.{Neighbor, MatchAddress, MatchPrefixList}
use Rattle.ios_policy_reader.specs.declared.heads.Row.TheVariants.{MatchCommunity, MatchPath, SetPreference, SetMetric}
use Rattle.ios_policy_reader.specs.declared.heads.Row.TheVariants.{SetWeight, SetCommunity, SetOrigin, SetPrepend}
use Rattle.ios_policy_reader.specs.declared.heads.Row.TheVariants.{SetMetricType, StandardEntry, ExtendedEntry}
use Rattle.ios_policy_reader.specs.declared.heads.Head.{Head}
use Rattle.ios_policy_reader.specs.declared.heads.Found.{Found}
use Rattle.ios_policy_reader.specs.declared.head_table.TheConstants.{HEADS}
use Rattle.ios_policy_reader.specs.declared.router_tables.TheConstants.{ACCESS_GROUP, ANYTHING, AS_NUMBER, BANDWIDTH}
use Rattle.ios_policy_reader.specs.declared.router_tables.TheConstants.{BANNER, BGP_NETWORK, BGP_REDISTRIBUTE}
use Rattle.ios_policy_reader.specs.declared.router_tables.TheConstants.{DEFAULT_ORIGINATE, EXTENDED_LIST, HOSTNAME}
use Rattle.ios_policy_reader.specs.declared.router_tables.TheConstants.{INTERFACE, INTERFACE_ADDRESS, NEIGHBOR}
use Rattle.ios_policy_reader.specs.declared.router_tables.TheConstants.{NOTHING, OSPF_NETWORK, OSPF_REDISTRIBUTE}
use Rattle.ios_policy_reader.specs.declared.router_tables.TheConstants.{PASSIVE, REFERENCE_BANDWIDTH, ROUTE, ROUTER_ID}
use Rattle.ios_policy_reader.specs.declared.router_tables.TheConstants.{SMALL_NUMBER, STANDARD_LIST}
use Rattle.ios_policy_reader.specs.declared.tables.TheConstants.{ACCESS_LIST, AS_PATH_LIST, COMMUNITY_LIST}
use Rattle.ios_policy_reader.specs.declared.tables.TheConstants.{MATCH_AS_PATH, MATCH_NAMES, PREFIX_LIST, ROUTE_MAP}
use Rattle.ios_policy_reader.specs.declared.tables.TheConstants.{SET_COMMUNITY, SET_METRIC_TYPE, SET_NUMBER}
use Rattle.ios_policy_reader.specs.declared.tables.TheConstants.{SET_ORIGIN, SET_PREPEND, SET_WEIGHT, IN_EXTENDED}
use Rattle.ios_policy_reader.specs.declared.tables.TheConstants.{IN_STANDARD}
use Rattle.ios_policy_reader.specs.Words.{is_key, keyword_of, number_from}
use Rattle.ios_policy_reader.specs.Edges.{read_from}

-- ---- the head of a line

-- the place of a context among the contexts
abbrev pub context_number : Context → ℕ
context_number Top = 0
context_number InInterface = 1
context_number InOspf = 2
context_number InBgp = 3
context_number InMap = 4
context_number InStandard = 5
context_number InExtended = 6

-- no word is left of a head, which is filled up with blanks
abbrev pub is_over : List ℕ → Bool
is_over head = option_map_or (λ b. b == 32) (slice_get head 0) true

-- what is left of a head after its first word
abbrev pub rest_of : List ℕ → List ℕ
rest_of head = drop (length (keyword_of head) + 1) head

-- how many words a head has with `n` before them, where the words begin with it
abbrev pub fit : ℕ → List ℕ → List (List ℕ) → Option ℕ
fit n head [] = if is_over head then Some n else None
fit n head (word ∷ rest) =
    if is_over head then Some n else if is_key head word then fit (n + 1) (rest_of head) rest else None

-- the row of a head that stands in the context and fits
abbrev pub found_by : Context → List (List ℕ) → Head → Option Found
found_by context words head =
    if context_number head.0 == context_number context
    then option_map (λ n. record { row = head.2; head = n }) (fit 0 head.1 words)
    else None

-- the one with the longer head
abbrev pub longer : Option Found → Option Found → Option Found
longer None next = next
longer (Some old) None = Some old
longer (Some old) (Some new) = if nat_lt old.head new.head then Some new else Some old

-- in the block of an access list a line that begins with a number is an entry
abbrev pub entry_in : Context → Option Found
entry_in InStandard = Some (record { row = StandardEntry; head = 0 })
entry_in InExtended = Some (record { row = ExtendedEntry; head = 0 })
entry_in _ = None

abbrev pub numbered_entry : Context → List (List ℕ) → Option Found
numbered_entry context words =
    option_and_then (λ word. option_and_then (λ n. entry_in context) (number_from 0 4294967295 word))
    (slice_get words 0)

-- the row with the longest of these heads that fits in the context
abbrev pub row_among : List Head → Context → List (List ℕ) → Option Found
row_among heads context words =
    fold (λ best head. longer best (found_by context words head)) (numbered_entry context words) heads

-- the head fits, in whichever context it stands
abbrev pub fits_any : List (List ℕ) → Head → Bool
fits_any words head = is_some (fit 0 head.1 words)

-- The row of a line in a context. Where no head of the context fits, the line is out of place if one of another context
-- fits, else its command is unknown.
abbrev pub row_of : Context → List (List ℕ) → Result Found Cause
row_of context words =
    option_map_or (λ found. Ok found) (row_among HEADS context words)
    (if list_any (fits_any words) HEADS then Err OutOfPlace else Err UnknownCommand)

-- ---- the tables of rows

unfoldable pub edges_of : Row → List Edge
edges_of Hostname = HOSTNAME
edges_of InterfaceBlock = INTERFACE
edges_of StaticRoute = ROUTE
edges_of OspfBlock = SMALL_NUMBER
edges_of BgpBlock = AS_NUMBER
edges_of AccessList = ACCESS_LIST
edges_of StandardBlock = STANDARD_LIST
edges_of ExtendedBlock = EXTENDED_LIST
edges_of PrefixList = PREFIX_LIST
edges_of CommunityList = COMMUNITY_LIST
edges_of PathList = AS_PATH_LIST
edges_of MapBlock = ROUTE_MAP
edges_of Banner = BANNER
edges_of IgnoredBlock = ANYTHING
edges_of Ignored = ANYTHING
edges_of Address = INTERFACE_ADDRESS
edges_of NoAddress = NOTHING
edges_of Shutdown = NOTHING
edges_of NoShutdown = NOTHING
edges_of Bandwidth = BANDWIDTH
edges_of OspfCost = SMALL_NUMBER
edges_of AccessGroup = ACCESS_GROUP
edges_of RouterId = ROUTER_ID
edges_of OspfNetwork = OSPF_NETWORK
edges_of Passive = PASSIVE
edges_of NoPassive = INTERFACE
edges_of ReferenceBandwidth = REFERENCE_BANDWIDTH
edges_of OspfRedistribute = OSPF_REDISTRIBUTE
edges_of Originate = DEFAULT_ORIGINATE
edges_of AlwaysCompareMed = NOTHING
edges_of CompareRouterId = NOTHING
edges_of DeterministicMed = NOTHING
edges_of BgpNetwork = BGP_NETWORK
edges_of BgpRedistribute = BGP_REDISTRIBUTE
edges_of Neighbor = NEIGHBOR
edges_of MatchAddress = MATCH_NAMES
edges_of MatchPrefixList = MATCH_NAMES
edges_of MatchCommunity = MATCH_NAMES
edges_of MatchPath = MATCH_AS_PATH
edges_of SetPreference = SET_NUMBER
edges_of SetMetric = SET_NUMBER
edges_of SetWeight = SET_WEIGHT
edges_of SetCommunity = SET_COMMUNITY
edges_of SetOrigin = SET_ORIGIN
edges_of SetPrepend = SET_PREPEND
edges_of SetMetricType = SET_METRIC_TYPE
edges_of StandardEntry = ACCESS_LIST
edges_of ExtendedEntry = ACCESS_LIST

-- the state in which a line of the row begins
abbrev pub state_of : Row → ℕ
state_of StandardEntry = IN_STANDARD
state_of ExtendedEntry = IN_EXTENDED
state_of _ = 0

-- how many words stand before those that the edges read: none in the block of an access list
abbrev pub words_before : Row → ℕ → ℕ
words_before StandardEntry n = 0
words_before ExtendedEntry n = 0
words_before _ n = n

abbrev pub tail_of : Found → ℕ
tail_of found = words_before found.row found.head

-- what the words of a line of the row say, or which word is bad
abbrev pub said_in : Found → List (List ℕ) → Result (List Said) Cause
said_in found words =
    read_from (edges_of found.row) (state_of found.row) [] (tail_of found) (drop (tail_of found) words)
