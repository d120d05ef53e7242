-- What a router does with a packet (RFC 1812, section 5.2.4).
use Rattle.std.specs.Prelude.{ℕ, zero, suc, ◌==◌, ◌&&◌, Bool, true, List, [], ◌∷◌, filter, map, slice_get, Option}
use Rattle.std.specs.Prelude.{Some, None, option_and_then, option_map, if◌then◌else◌}
use Rattle.std.specs.List.{find, flat_map, list_any}
use Rattle.std.specs.Option.{option_map_or}
use Rattle.mw_text.specs.declared.address.Addr.{Addr}
use Rattle.mw_text.specs.declared.address.Prefix.{Prefix}
use Rattle.mw_text.specs.Address.{covers, prefix_at, same_prefix}
use Rattle.ios_ast.specs.declared.file.File.{File}
use Rattle.ios_ast.specs.declared.file.Iface.{Iface}
use Rattle.ios_ast.specs.declared.file.StaticRoute.{StaticRoute}
use Rattle.ios_ast.specs.declared.file.Use.{Use}
use Rattle.ios_ast.specs.declared.file.Via.{Via}
use Rattle.ios_ast.specs.declared.file.Via.TheVariants.{Null0, Next, Out}
use Rattle.route_record.specs.declared.Failures.{Failures}
use Rattle.route_record.specs.declared.Packet.{Packet}
use Rattle.route_record.specs.declared.RibEntry.{RibEntry}
use Rattle.route_record.specs.declared.RibSource.{RibSource}
use Rattle.route_record.specs.declared.RibSource.TheVariants.{Connected, Static, Ebgp, Ospf, Ibgp}
use Rattle.route_record.specs.declared.Slot.{Slot}
use Rattle.route_record.specs.declared.Tables.{Tables}
use Rattle.route_record.specs.declared.TheConstants.{LENGTHS}
use Rattle.route_record.specs.declared.World.{World}
use Rattle.route_record.specs.Places.{slot_at}
use Rattle.net_interfaces.specs.declared.interfaces.Addressed.{Addressed}
use Rattle.net_interfaces.specs.declared.interfaces.IfaceId.{IfaceId}
use Rattle.net_interfaces.specs.Interfaces.{addressed}
use Rattle.net_parts.specs.declared.adjacencies.Adjacency.{Adjacency}
use Rattle.net_parts.specs.Sending.{permitted_by_list, sent_by_ospf, sent_towards}
use Rattle.net_parts.specs.World.{is_up}
use Rattle.net_parts.specs.Routing.{up_interfaces, static_routes}
use Rattle.question_lang.specs.declared.walk.End.TheVariants.{Delivered, Left, NoRoute, Discarded, DeniedIn, DeniedOut}
use Rattle.question_lang.specs.declared.walk.Hop.{Hop}
use Rattle.question_lang.specs.declared.walk.Hop.TheVariants.{To, Ends}

-- an interface without a list permits every packet
abbrev pub permits : File → Packet → Option Use → Bool
permits file packet list = option_map_or (λ named. permitted_by_list file named packet) list true

-- what the list of an interface says of a packet, where there is such an interface
abbrev pub permits_by : (Iface → Option Use) → List File → Packet → IfaceId → Bool
permits_by list files packet i =
    option_map_or (λ file. option_map_or (λ iface. permits file packet (list iface))
    (slice_get file.interfaces i.at) true)
    (slice_get files i.router) true

-- the in list of the interface permits the packet, and so the out list
unfoldable pub permits_in : List File → Packet → IfaceId → Bool
permits_in files packet i = permits_by (λ iface. iface.list_in) files packet i

unfoldable pub permits_out : List File → Packet → IfaceId → Bool
permits_out files packet i = permits_by (λ iface. iface.list_out) files packet i

-- a packet that comes in at an interface is tested by its in list
abbrev pub arrive : List File → Packet → IfaceId → Hop
arrive files packet i = if permits_in files packet i then To i else Ends (DeniedIn i)

-- a packet that goes out of an interface is tested by its out list before anything else
abbrev pub depart : List File → Packet → IfaceId → Hop → Hop
depart files packet out hop = if permits_out files packet out then hop else Ends DeniedOut

-- all interfaces that have an address and are up
abbrev pub all_up : List File → Failures → List Addressed
all_up files failures = filter (is_up files failures) (addressed files)

-- the interface that has the address, where it is up and on that subnet
abbrev pub owner_on : List Addressed → Prefix → Addr → Option IfaceId
owner_on up subnet a = option_map (λ x. x.id) (find (λ x. (x.addr.0 == a.0) && same_prefix x.subnet subnet) up)

-- out of an interface to an address on its subnet: to the router that has it, or out of the network
abbrev pub send_to : List File → Packet → List Addressed → Addressed → Addr → Hop
send_to files packet up out a =
    depart files packet out.id (option_map_or (arrive files packet) (owner_on up out.subnet a) (Ends (Left a)))

-- over the interface of the router whose subnet has the address, where one is up
abbrev pub send_over : List File → Packet → List Addressed → List Addressed → Addr → List Hop
send_over files packet up own a =
    option_map_or (λ out. send_to files packet up out a ∷ []) (find (λ x. covers x.subnet a) own) []

-- where a static route leads
abbrev pub static_hops : List File → Packet → List Addressed → List Addressed → StaticRoute → List Hop
static_hops files packet up own route = lead route.via where
  lead : Via → List Hop
  lead Null0 = Ends Discarded ∷ []
  lead (Next a) = send_over files packet up own a
  lead (Out named a) = send_over files packet up own a

-- a connected entry leads to the router that has the destination, or delivers on the subnet
abbrev pub connected_hops : List File → Packet → List Addressed → List Addressed → Prefix → List Hop
connected_hops files packet up own p =
    option_map_or (λ out.
    depart files packet out.id (option_map_or (arrive files packet) (owner_on up p packet.dst) (Ends Delivered)) ∷ [])
    (find (λ x. same_prefix x.subnet p) own) []

-- over an adjacency, out of the own interface and in at the other router's
abbrev pub send_adjacent : List File → Packet → Adjacency → Hop
send_adjacent files packet a = depart files packet a.from (arrive files packet a.to)

-- an OSPF entry sends over the adjacencies that offer the record which the router holds, and nowhere where it holds
-- none
abbrev pub ospf_hops : List File → World → ℕ → Prefix → Slot → List Hop
ospf_hops files world router p slot =
    option_map_or (λ held.
    map (send_adjacent files world.packet) (sent_by_ospf files world.failures world.tables router p held)) slot.ospf []

-- a BGP entry sends to its next hop where that is on a subnet of the router, else over the adjacencies that lead to it,
-- and nowhere where the router holds no BGP route
abbrev pub bgp_hops : List File → World → List Addressed → List Addressed → ℕ → Slot → List Hop
bgp_hops files world up own router slot =
    option_map_or (λ held.
    if list_any (λ x. covers x.subnet held.next_hop) own then send_over files world.packet up own held.next_hop
    else map (send_adjacent files world.packet) (sent_towards files world.failures router held.next_hop)) slot.bgp []

-- the next hops of the entry of a slot
abbrev pub entry_hops : List File → World → List Addressed → List Addressed → ℕ → File → ℕ × Slot × RibEntry → List Hop
entry_hops files world up own router file (len, slot, entry) = by_source entry.source where
  by_source : RibSource → List Hop
  by_source Connected = connected_hops files world.packet up own (prefix_at world.packet.dst len)
  by_source Static =
      flat_map (static_hops files world.packet up own)
      (filter (λ route. route.distance == entry.distance)
      (static_routes own file.statics (prefix_at world.packet.dst len)))
  by_source Ebgp = bgp_hops files world up own router slot
  by_source Ospf = ospf_hops files world router (prefix_at world.packet.dst len) slot
  by_source Ibgp = bgp_hops files world up own router slot

-- the slot of a router for a prefix length, where it has an entry
abbrev pub entry_at : Tables → ℕ → ℕ → Option (Slot × RibEntry)
entry_at tables router len =
    option_and_then (λ slot. option_map (λ entry. (slot, entry)) slot.rib) (slot_at tables router len)

-- the entry of the longest prefix that is shorter than the bound
unfoldable pub longest_below : Tables → ℕ → ℕ → Option (ℕ × Slot × RibEntry)
longest_below tables router zero = None
longest_below tables router (suc len) =
    option_map_or (λ found. Some (len, found.0, found.1)) (entry_at tables router len) (longest_below tables router len)

-- a router delivers a packet for an address of an interface of its own that is up; else the longest prefix with an
-- entry decides, and without one there is no route
abbrev pub hops_over : List File → World → List Addressed → List Addressed → ℕ → File → List Hop
hops_over files world up own router file =
    if list_any (λ x. x.addr.0 == world.packet.dst.0) own then Ends Delivered ∷ []
    else option_map_or (entry_hops files world up own router file) (longest_below world.tables router LENGTHS)
    (Ends NoRoute ∷ [])

-- the next hops of a router: the set of those that this list has. A number that is no router's has none
abbrev pub next_hops : List File → World → ℕ → List Hop
next_hops files world router =
    option_map_or (hops_over files world (all_up files world.failures)
    (up_interfaces files world.failures router) router)
    (slice_get files router) []
