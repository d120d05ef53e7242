-- The JSON values of the parts of a counterexample.
use Rattle.std.specs.Prelude.{ℕ, ◌+◌, ◌/◌, ◌%◌, ◌^◌, List, [], ◌∷◌, ◌++◌, codes, decimal, is_some, map, Bool, ◌||◌}
use Rattle.std.specs.Prelude.{Option, Some, option_map, slice_get, if◌then◌else◌}
use Rattle.std.specs.Option.{option_map_or}
use Rattle.std.specs.Str.Lossy.{utf8_lossy}
use Rattle.mw_text.specs.declared.address.Addr.{Addr}
use Rattle.ios_ast.specs.declared.file.File.{File}
use Rattle.route_record.specs.declared.BgpRec.{BgpRec}
use Rattle.route_record.specs.declared.Learnt.{Learnt}
use Rattle.route_record.specs.declared.Learnt.TheVariants.{Local, Peer}
use Rattle.route_record.specs.declared.Origin.{Origin}
use Rattle.route_record.specs.declared.Origin.TheVariants.{Igp, Egp, Incomplete}
use Rattle.route_record.specs.declared.OspfKind.{OspfKind}
use Rattle.route_record.specs.declared.OspfKind.TheVariants.{Internal, Ext1, Ext2}
use Rattle.route_record.specs.declared.OspfRec.{OspfRec}
use Rattle.route_record.specs.declared.Packet.{Packet}
use Rattle.route_record.specs.declared.RibEntry.{RibEntry}
use Rattle.route_record.specs.declared.RibSource.{RibSource}
use Rattle.route_record.specs.declared.RibSource.TheVariants.{Connected, Static, Ebgp, Ospf, Ibgp}
use Rattle.route_record.specs.declared.Slot.{Slot}
use Rattle.route_record.specs.declared.TheConstants.{LENGTHS}
use Rattle.question_lang.specs.declared.question.Start.{Start}
use Rattle.question_lang.specs.declared.walk.End.{End}
use Rattle.question_lang.specs.declared.walk.End.TheVariants.{Delivered, Left, NoRoute, Discarded, DeniedIn, DeniedOut}
use Rattle.question_lang.specs.declared.walk.End.TheVariants.{Loop, Open}
use Rattle.question_lang.specs.declared.walk.Walk.{Walk}
use Rattle.serde_json.specs.Data.{Data, Members, object, string}
use Rattle.cex_json.specs.Json.{array_of, members_with, members_with_from, number_of, object_of, text_of}

-- the octet of an address that so many bits stand below
abbrev pub octet : Addr → ℕ → ℕ
octet a below = a.0 / 2 ^ below % 256

-- an address in dotted decimal (RFC 1123, section 2.1)
unfoldable pub addr_text : Addr → List ℕ
addr_text a =
    decimal (octet a 24) ++ (codes "."
    ++ (decimal (octet a 16) ++ (codes "." ++ (decimal (octet a 8) ++ (codes "." ++ decimal (octet a 0))))))

-- the name of a router; a number that is no router's has the empty name
abbrev pub router_name : List File → ℕ → List ℕ
router_name files router = option_map_or (λ file. file.hostname) (slice_get files router) []

-- the name of an interface of a router; a place without an interface has the empty name
abbrev pub iface_name : List File → ℕ → ℕ → List ℕ
iface_name files router at =
    option_map_or (λ file. option_map_or (λ iface. iface.name) (slice_get file.interfaces at) [])
    (slice_get files router) []

unfoldable pub packet_data : Packet → Data
packet_data packet = object_of (
    (codes "dport", Some (number_of packet.dport))
    ∷ (codes "dst", Some (string (addr_text packet.dst)))
    ∷ (codes "proto", Some (number_of packet.proto))
    ∷ (codes "sport", Some (number_of packet.sport))
    ∷ (codes "src", Some (string (addr_text packet.src)))
    ∷ [])

abbrev pub source_text : RibSource → List ℕ
source_text Connected = codes "connected"
source_text Static = codes "static"
source_text Ebgp = codes "ebgp"
source_text Ospf = codes "ospf"
source_text Ibgp = codes "ibgp"

-- an entry of the routing table
unfoldable pub rib_data : RibEntry → Data
rib_data entry = object_of (
    (codes "distance", Some (number_of entry.distance))
    ∷ (codes "source", Some (string (source_text entry.source)))
    ∷ [])

abbrev pub kind_text : OspfKind → List ℕ
kind_text Internal = codes "internal"
kind_text Ext1 = codes "ext1"
kind_text Ext2 = codes "ext2"

-- an OSPF record
unfoldable pub ospf_data : OspfRec → Data
ospf_data held = object_of (
    (codes "cost", Some (number_of held.cost))
    ∷ (codes "kind", Some (string (kind_text held.kind)))
    ∷ (codes "metric", Some (number_of held.metric))
    ∷ [])

abbrev pub origin_text : Origin → List ℕ
origin_text Igp = codes "igp"
origin_text Egp = codes "egp"
origin_text Incomplete = codes "incomplete"

abbrev pub learnt_text : Learnt → List ℕ
learnt_text Local = codes "local"
learnt_text (Peer a) = addr_text a

abbrev pub addr_data : Addr → Data
addr_data a = string (addr_text a)

-- a BGP record: its fields in two halves
abbrev pub first_bgp_fields : BgpRec → List (List ℕ × Option Data)
first_bgp_fields held =
    (codes "clusters", Some (array_of (map addr_data held.clusters)))
    ∷ (codes "communities", Some (array_of (map number_of held.communities)))
    ∷ (codes "from", Some (string (learnt_text held.from)))
    ∷ (codes "localpref", Some (number_of held.local_pref))
    ∷ (codes "med", Some (number_of held.med))
    ∷ []

abbrev pub last_bgp_fields : BgpRec → List (List ℕ × Option Data)
last_bgp_fields held =
    (codes "nexthop", Some (addr_data held.next_hop))
    ∷ (codes "origin", Some (string (origin_text held.origin)))
    ∷ (codes "originator", option_map addr_data held.originator)
    ∷ (codes "path", Some (array_of (map number_of held.path)))
    ∷ (codes "weight", Some (number_of held.weight))
    ∷ []

unfoldable pub first_of_bgp : BgpRec → Members
first_of_bgp held = members_with (first_bgp_fields held)

unfoldable pub bgp_data : BgpRec → Data
bgp_data held = object (members_with_from (first_of_bgp held) (last_bgp_fields held))

-- the slot at that place of the tables, with its router and its length; a part that is not there is absent
abbrev pub parts_fields : List File → ℕ → Slot → List (List ℕ × Option Data)
parts_fields files place slot =
    (codes "bgp", option_map bgp_data slot.bgp)
    ∷ (codes "len", Some (number_of (place % LENGTHS)))
    ∷ (codes "ospf", option_map ospf_data slot.ospf)
    ∷ (codes "rib", option_map rib_data slot.rib)
    ∷ (codes "router", Some (text_of (router_name files (place / LENGTHS))))
    ∷ []

unfoldable pub parts_data : List File → ℕ → Slot → Data
parts_data files place slot = object_of (parts_fields files place slot)

-- some part of the slot is there
abbrev pub has_part : Slot → Bool
has_part slot = is_some slot.bgp || (is_some slot.ospf || is_some slot.rib)

-- the slots with a part, the first of which stands at that place
abbrev pub slots_from : List File → ℕ → List Slot → List Data
slots_from files place [] = []
slots_from files place (slot ∷ rest) =
    (if has_part slot then parts_data files place slot ∷ [] else []) ++ slots_from files (place + 1) rest

-- how a walk ends
abbrev pub end_text : List File → End → List ℕ
end_text files Delivered = codes "delivered"
end_text files (Left a) = codes "left " ++ addr_text a
end_text files NoRoute = codes "noroute"
end_text files Discarded = codes "discarded"
end_text files (DeniedIn i) =
    codes "deniedin " ++ (utf8_lossy (router_name files i.router)
    ++ (codes " " ++ utf8_lossy (iface_name files i.router i.at)))
end_text files DeniedOut = codes "deniedout"
end_text files Loop = codes "loop"
end_text files Open = codes "open"

-- a router that the packet stands at, with the interface at which it came in
abbrev pub hop_fields : List File → Start → List (List ℕ × Option Data)
hop_fields files hop =
    (codes "in", option_map (λ at. text_of (iface_name files hop.router at)) hop.iface)
    ∷ (codes "router", Some (text_of (router_name files hop.router)))
    ∷ []

unfoldable pub hop_data : List File → Start → Data
hop_data files hop = object_of (hop_fields files hop)

abbrev pub walk_fields : List File → Walk → List (List ℕ × Option Data)
walk_fields files walk =
    (codes "end", Some (string (end_text files walk.end)))
    ∷ (codes "hops", Some (array_of (map (hop_data files) walk.hops)))
    ∷ []

unfoldable pub walk_data : List File → Walk → Data
walk_data files walk = object_of (walk_fields files walk)
