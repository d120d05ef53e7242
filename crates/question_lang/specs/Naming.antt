-- What the words of a question name: routers, interfaces, external peers, packets.
use Rattle.std.specs.Prelude.{ℕ, ◌==◌, ◌&&◌, ◌||◌, Bool, true, false, not, min, List, [], fold, position, is_some}
use Rattle.std.specs.Prelude.{slice_get, Option, Some, None, option_and_then, option_map, if◌then◌else◌}
use Rattle.std.specs.List.{list_all, list_any}
use Rattle.std.specs.Option.{option_map_or}
use Rattle.mw_text.specs.declared.address.Addr.{Addr}
use Rattle.mw_text.specs.declared.address.Prefix.{Prefix}
use Rattle.mw_text.specs.Text.{same_text}
use Rattle.ios_ast.specs.declared.file.File.{File}
use Rattle.ios_ast.specs.declared.file.Iface.{Iface}
use Rattle.ios_policy_reader.specs.declared.said.Tag.{Tag}
use Rattle.ios_policy_reader.specs.declared.said.Tag.TheVariants.{Protocol, Source, SourcePort, Target as TargetTag}
use Rattle.ios_policy_reader.specs.declared.said.Tag.TheVariants.{TargetPort, Start as StartTag, Entering}
use Rattle.ios_policy_reader.specs.declared.said.Tag.TheVariants.{Router as RouterTag, Subnet as SubnetTag}
use Rattle.ios_policy_reader.specs.declared.said.Tag.TheVariants.{Peer as PeerTag, Waypoint, OtherStart}
use Rattle.ios_policy_reader.specs.declared.said.Value.{Value}
use Rattle.ios_policy_reader.specs.declared.said.Value.TheVariants.{Nothing, Number, Address, Length}
use Rattle.ios_policy_reader.specs.declared.said.Value.TheVariants.{Prefix as PrefixValue, Pattern, Ports, Word}
use Rattle.ios_policy_reader.specs.declared.said.Said.{Said}
use Rattle.ios_policy_reader.specs.Said.{tag_number, has_said, address_under, prefix_said}
use Rattle.ios_policy_reader.specs.Values.{word_at}
use Rattle.net_interfaces.specs.declared.interfaces.Addressed.{Addressed}
use Rattle.net_parts.specs.declared.sessions.Peering.{Peering}
use Rattle.net_interfaces.specs.Interfaces.{addressed}
use Rattle.net_parts.specs.Sessions.{peerings, is_external_peer}
use Rattle.question_lang.specs.declared.question.PacketSet.{PacketSet}
use Rattle.question_lang.specs.declared.question.Start.{Start}
use Rattle.question_lang.specs.declared.question.Target.{Target}
use Rattle.question_lang.specs.declared.question.Target.TheVariants.{Router, Subnet, Peer}

-- ---- what was said

abbrev pub value_more : Tag → Value → Said → Value
value_more tag v s = if tag_number s.tag == tag_number tag then s.value else v

-- what was said last under a tag
abbrev pub value_under : Tag → List Said → Value
value_under tag said = fold (value_more tag) Nothing said

-- the word of the line that a value is
abbrev pub word_in : List (List ℕ) → Value → List ℕ
word_in words Nothing = []
word_in words (Number n) = []
word_in words (Address a) = []
word_in words (Length n) = []
word_in words (PrefixValue p) = []
word_in words (Pattern p) = []
word_in words (Ports low high) = []
word_in words (Word at) = word_at words at

-- the word that was said last under a tag
abbrev pub word_under : Tag → List (List ℕ) → List Said → List ℕ
word_under tag words said = word_in words (value_under tag said)

-- ---- packets

-- a protocol by its number (IANA protocol numbers), which fits its field; `ip` says none, and is any
abbrev pub protocol_in : Value → Option ℕ
protocol_in Nothing = None
protocol_in (Number n) = Some (min n 255)
protocol_in (Address a) = None
protocol_in (Length n) = None
protocol_in (PrefixValue p) = None
protocol_in (Pattern p) = None
protocol_in (Ports low high) = None
protocol_in (Word at) = None

-- A/L; `any` says nothing, and is every address
abbrev pub addresses_in : Value → Prefix
addresses_in Nothing = record { addr = record { 0 = 0 }; len = 0 }
addresses_in (Number n) = record { addr = record { 0 = 0 }; len = 0 }
addresses_in (Address a) = record { addr = record { 0 = 0 }; len = 0 }
addresses_in (Length n) = record { addr = record { 0 = 0 }; len = 0 }
addresses_in (PrefixValue p) = p
addresses_in (Pattern p) = record { addr = record { 0 = 0 }; len = 0 }
addresses_in (Ports low high) = record { addr = record { 0 = 0 }; len = 0 }
addresses_in (Word at) = record { addr = record { 0 = 0 }; len = 0 }

-- ports from the first to the second
abbrev pub ports_in : Value → ℕ × ℕ
ports_in Nothing = (0, 65535)
ports_in (Number n) = (0, 65535)
ports_in (Address a) = (0, 65535)
ports_in (Length n) = (0, 65535)
ports_in (PrefixValue p) = (0, 65535)
ports_in (Pattern p) = (0, 65535)
ports_in (Ports low high) = (low, high)
ports_in (Word at) = (0, 65535)

-- PROTO SRC SPORTS DST DPORTS
unfoldable pub set_of : List Said → PacketSet
set_of said = record {
  proto = protocol_in (value_under Protocol said);
  src = addresses_in (value_under Source said);
  sport = ports_in (value_under SourcePort said);
  dst = addresses_in (value_under TargetTag said);
  dport = ports_in (value_under TargetPort said);
}

-- ---- routers

-- the router of that name
abbrev pub router_named : List File → List ℕ → Option ℕ
router_named files name = position (λ file. same_text file.hostname name) files

-- the router that was said last under a tag
abbrev pub router_under : Tag → List File → List (List ℕ) → List Said → Option ℕ
router_under tag files words said = router_named files (word_under tag words said)

-- a router is named under these tags
abbrev pub names_router : Tag → Bool
names_router tag =
    (tag_number tag == tag_number StartTag) || ((tag_number tag == tag_number RouterTag)
    || ((tag_number tag == tag_number Waypoint) || (tag_number tag == tag_number OtherStart)))

abbrev pub is_known : List File → List (List ℕ) → Said → Bool
is_known files words s = not (names_router s.tag) || is_some (router_named files (word_in words s.value))

-- each word that names a router names one of the files
abbrev pub are_routers_known : List File → List (List ℕ) → List Said → Bool
are_routers_known files words said = list_all (is_known files words) said

-- ---- interfaces

-- the interfaces of a router, in the order of its file
abbrev pub interfaces_at : List File → ℕ → List Iface
interfaces_at files router = option_map_or (λ file. file.interfaces) (slice_get files router) []

-- the interface of that name among those of a router, by its place
abbrev pub iface_named : List File → ℕ → List ℕ → Option ℕ
iface_named files router name = position (λ iface. same_text iface.name name) (interfaces_at files router)

-- a router without an incoming interface, or with the one of that name
abbrev pub start_at : List File → List (List ℕ) → List Said → ℕ → Option Start
start_at files words said router =
    if has_said Entering said
    then option_map (λ at. record { router = router; iface = Some at })
    (iface_named files router (word_under Entering words said))
    else Some (record { router = router; iface = None })

-- R [`in` IF]
unfoldable pub start_of : List File → List (List ℕ) → List Said → Option Start
start_of files words said = option_and_then (start_at files words said) (router_under StartTag files words said)

-- ---- targets

-- the neighbour line is one of that router, and names an external peer with that address, shut down or not
abbrev pub is_peer_line : List Addressed → ℕ → Addr → Peering → Bool
is_peer_line all router a line = (line.router == router) && ((line.neighbour.0 == a.0) && is_external_peer all line)

-- an external peer of the router has the address
unfoldable pub is_peer : List File → ℕ → Addr → Bool
is_peer files router a = list_any (is_peer_line (addressed files) router a) (peerings files)

-- the address of a peer
abbrev pub peer_address : List Said → Addr
peer_address said = address_under PeerTag said (record { 0 = 0 })

-- a target that is a peer is an external peer of its router
abbrev pub is_peer_known : List File → List (List ℕ) → List Said → Bool
is_peer_known files words said =
    if has_said PeerTag said
    then option_map_or (λ router. is_peer files router (peer_address said))
    (router_under RouterTag files words said) false
    else true

-- `router` R, `subnet` A/L, or `peer` R A
unfoldable pub target_of : List File → List (List ℕ) → List Said → Option Target
target_of files words said =
    if has_said PeerTag said
    then option_map (λ router. Peer router (peer_address said)) (router_under RouterTag files words said)
    else (if has_said SubnetTag said then Some (Subnet (addresses_in (value_under SubnetTag said)))
    else option_map (λ router. Router router) (router_under RouterTag files words said))
