-- Interfaces that run OSPF, what they advertise, and adjacencies (RFC 2328, sections 9 and 10; Cisco IOS, `network
-- area`, `passive-interface`, `auto-cost` and `ip ospf cost`).
use Rattle.std.specs.Prelude.{ℕ, ◌*◌, ◌/◌, ◌==◌, ◌&&◌, ◌||◌, Bool, not, List, [], max, min, filter, fold, map}
use Rattle.std.specs.Prelude.{slice_get, Option, None, option_and_then, option_map, unwrap_or, if◌then◌else◌}
use Rattle.std.specs.List.{filter_map, find, flat_map, list_any}
use Rattle.mw_text.specs.declared.address.Addr.{Addr}
use Rattle.mw_text.specs.declared.address.Prefix.{Prefix}
use Rattle.mw_text.specs.Address.{prefix_at, same_prefix}
use Rattle.mw_text.specs.Text.{same_text}
use Rattle.ios_ast.specs.declared.file.File.{File}
use Rattle.ios_ast.specs.declared.file.Iface.{Iface}
use Rattle.ios_ast.specs.declared.ospf.Ospf.{Ospf}
use Rattle.ios_ast.specs.declared.ospf.OspfNet.{OspfNet}
use Rattle.ios_ast.specs.Packets.{address_matches}
use Rattle.route_record.specs.declared.Failures.{Failures}
use Rattle.net_parts.specs.declared.adjacencies.Adjacency.{Adjacency}
use Rattle.net_interfaces.specs.declared.interfaces.Addressed.{Addressed}
use Rattle.net_interfaces.specs.declared.interfaces.IfaceId.{IfaceId}
use Rattle.net_parts.specs.declared.ospf.OspfInterface.{OspfInterface}
use Rattle.net_interfaces.specs.Interfaces.{addressed}
use Rattle.net_parts.specs.World.{is_up, put_in_order}

-- a `network` statement matches the address
abbrev pub is_matched_by : Addr → OspfNet → Bool
is_matched_by a line = address_matches (record { addr = line.addr; wild = line.wild }) a.0

-- one of the process does
abbrev pub is_matched : Ospf → Addr → Bool
is_matched process a = list_any (is_matched_by a) process.networks

-- `passive-interface` names it, or the default is passive and `no passive-interface` does not name it
abbrev pub is_passive : Ospf → List ℕ → Bool
is_passive process name =
    list_any (λ named. same_text named.name name) process.passive
    || (process.passive_default && not (list_any (λ named. same_text named.name name) process.active))

-- the reference bandwidth, in megabits a second, over the interface's, in kilobits, rounded down, from 1 to 65535
abbrev pub bandwidth_cost : ℕ → ℕ → ℕ
bandwidth_cost reference bandwidth = max 1 (min 65535 (reference * 1000 / bandwidth))

-- that of its bandwidth; 1 of a loopback; and as `ip ospf cost` says, where that is written
abbrev pub interface_cost : Ospf → Iface → Bool → ℕ
interface_cost process iface loopback =
    unwrap_or iface.cost (if loopback then 1 else bandwidth_cost process.reference iface.bandwidth)

abbrev pub running : Ospf → Iface → Addressed → OspfInterface
running process iface x = record {
  at = x;
  cost = interface_cost process iface x.loopback;
  passive = is_passive process iface.name;
}

abbrev pub running_in : File → Ospf → Addressed → Option OspfInterface
running_in file process x =
    if is_matched process x.addr then option_map (λ iface. running process iface x)
    (slice_get file.interfaces x.id.at) else None

-- the interface as its router's process runs it
abbrev pub ospf_at : List File → Addressed → Option OspfInterface
ospf_at files x =
    option_and_then (λ file. option_and_then (λ process. running_in file process x) file.ospf)
    (slice_get files x.id.router)

-- all interfaces that run OSPF, shut down or not, in the order of the files
unfoldable pub ospf_interfaces : List File → List OspfInterface
ospf_interfaces files = filter_map (ospf_at files) (addressed files)

-- the interface is at that place
abbrev pub is_ospf_at : IfaceId → OspfInterface → Bool
is_ospf_at i x = (x.at.id.router == i.router) && (x.at.id.at == i.at)

-- the cost of the interface at that place, where it runs OSPF
unfoldable pub ospf_cost : List File → IfaceId → Option ℕ
ospf_cost files i = option_map (λ x. x.cost) (find (is_ospf_at i) (ospf_interfaces files))

-- an interface advertises its subnet, and a loopback its address
abbrev pub advertisement : OspfInterface → Prefix
advertisement x = if x.at.loopback then prefix_at x.at.addr 32 else x.at.subnet

-- every prefix that some interface advertises, ascending
unfoldable pub advertised : List File → List Prefix
advertised files = fold put_in_order [] (map advertisement (ospf_interfaces files))

-- two interfaces of different routers on one subnet, neither passive nor shut down
abbrev pub are_adjacent : OspfInterface → OspfInterface → Bool
are_adjacent a b =
    (not (a.passive || b.passive) && not (a.at.shutdown || b.at.shutdown))
    && (not (a.at.id.router == b.at.id.router) && same_prefix a.at.subnet b.at.subnet)

-- the router of `from` receives from that of `to`, at the cost of its own interface
abbrev pub adjacency : OspfInterface → OspfInterface → Adjacency
adjacency a b = record { from = a.at.id; to = b.at.id; cost = a.cost }

-- those of one interface with some others
abbrev pub adjacencies_of : OspfInterface → List OspfInterface → List Adjacency
adjacencies_of a others = map (adjacency a) (filter (are_adjacent a) others)

-- all adjacencies while no link fails, by `from` and then by `to`
unfoldable pub adjacencies : List File → List Adjacency
adjacencies files = flat_map (λ a. adjacencies_of a (ospf_interfaces files)) (ospf_interfaces files)

-- the interface at that place has an address and is up
abbrev pub is_up_at : List File → Failures → IfaceId → Bool
is_up_at files failures i =
    list_any (λ x. ((x.id.router == i.router) && (x.id.at == i.at)) && is_up files failures x) (addressed files)

-- an adjacency is up where both interfaces are
abbrev pub is_adjacency_up : List File → Failures → Adjacency → Bool
is_adjacency_up files failures a = is_up_at files failures a.from && is_up_at files failures a.to

-- the router receives over the adjacency: it is one of the router's own, and is up
abbrev pub receives : List File → Failures → ℕ → Adjacency → Bool
receives files failures router a = (a.from.router == router) && is_adjacency_up files failures a

-- the adjacencies over which a router receives
unfoldable pub up_adjacencies : List File → Failures → ℕ → List Adjacency
up_adjacencies files failures router = filter (receives files failures router) (adjacencies files)

-- the interfaces of a router by which it originates the prefix: they advertise it and are up
abbrev pub origin_interfaces : List File → Failures → ℕ → Prefix → List OspfInterface
origin_interfaces files failures router p =
    filter (λ x. (x.at.id.router == router) && (same_prefix (advertisement x) p && is_up files failures x.at))
    (ospf_interfaces files)
