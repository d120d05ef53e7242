-- Over which adjacencies a router sends, and which packets its access lists permit.
use Rattle.std.specs.Prelude.{ℕ, ◌+◌, ◌==◌, ◌&&◌, Bool, false, List, [], filter}
use Rattle.std.specs.List.{find}
use Rattle.std.specs.Option.{option_map_or}
use Rattle.mw_text.specs.declared.address.Addr.{Addr}
use Rattle.mw_text.specs.declared.address.Prefix.{Prefix}
use Rattle.mw_text.specs.Address.{covers}
use Rattle.ios_ast.specs.declared.file.File.{File}
use Rattle.ios_ast.specs.declared.file.Use.{Use}
use Rattle.ios_ast.specs.Matching.{named_answer}
use Rattle.ios_ast.specs.Packets.{Header, packet_permitted}
use Rattle.route_record.specs.declared.Failures.{Failures}
use Rattle.route_record.specs.declared.OspfRec.{OspfRec}
use Rattle.route_record.specs.declared.Packet.{Packet}
use Rattle.route_record.specs.declared.Tables.{Tables}
use Rattle.net_parts.specs.declared.adjacencies.Adjacency.{Adjacency}
use Rattle.net_parts.specs.Distances.{interior_distance}
use Rattle.net_parts.specs.Ospf.{advertised, up_adjacencies}
use Rattle.net_parts.specs.OspfRoutes.{kind_rank, offer_over}

abbrev pub same_record : OspfRec → OspfRec → Bool
same_record a b = (kind_rank a.kind == kind_rank b.kind) && ((a.metric == b.metric) && (a.cost == b.cost))

-- an OSPF entry sends over each adjacency whose offer is the record that the router holds
unfoldable pub sent_by_ospf : List File → Failures → Tables → ℕ → Prefix → OspfRec → List Adjacency
sent_by_ospf files failures tables router p held =
    filter (λ a. option_map_or (same_record held) (offer_over tables p a) false) (up_adjacencies files failures router)

-- an adjacency lies on a least walk to the prefix
abbrev pub is_on_least_walk : List File → Failures → ℕ → Prefix → Adjacency → Bool
is_on_least_walk files failures router p a =
    option_map_or (λ d. option_map_or (λ further. d == a.cost + further)
    (interior_distance files failures a.to.router p) false)
    (interior_distance files failures router p) false

-- towards an address that no subnet of the router has, it sends over each adjacency on a least walk to the advertised
-- prefix that contains the address
unfoldable pub sent_towards : List File → Failures → ℕ → Addr → List Adjacency
sent_towards files failures router a =
    option_map_or (λ p. filter (is_on_least_walk files failures router p) (up_adjacencies files failures router))
    (find (λ p. covers p a) (advertised files)) []

-- what access lists test of a packet
abbrev pub header_of : Packet → Header
header_of packet = record {
  src = packet.src.0;
  dst = packet.dst.0;
  proto = packet.proto;
  sport = packet.sport;
  dport = packet.dport;
}

-- the access list of that name in the file permits the packet; a list that is not there denies
unfoldable pub permitted_by_list : File → Use → Packet → Bool
permitted_by_list file named packet =
    named_answer (λ l. l.name) (λ l. packet_permitted l.entries (header_of packet)) file.policies.access named.name
