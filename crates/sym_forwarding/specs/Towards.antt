-- Where a BGP entry leads, by its next hop: over the first interface of the router that reaches it, else over each
-- adjacency on a least walk to it.
use Rattle.std.specs.Prelude.{ℕ, ◌+◌, ◌==◌, ◌&&◌, Bool, false, List, filter, map, Option, if◌then◌else◌}
use Rattle.std.specs.List.{find, list_any}
use Rattle.std.specs.Option.{option_map_or}
use Rattle.mw_text.specs.declared.address.Addr.{Addr}
use Rattle.mw_text.specs.declared.address.Prefix.{Prefix}
use Rattle.mw_text.specs.Address.{covers}
use Rattle.ios_ast.specs.declared.file.File.{File}
use Rattle.route_record.specs.declared.Failures.{Failures}
use Rattle.route_record.specs.declared.OspfRec.{OspfRec}
use Rattle.route_record.specs.declared.Packet.{Packet}
use Rattle.net_parts.specs.declared.adjacencies.Adjacency.{Adjacency}
use Rattle.net_parts.specs.Ospf.{advertised}
use Rattle.net_parts.specs.Routing.{up_interfaces}
use Rattle.net_parts.specs.Sending.{is_on_least_walk, sent_towards}
use Rattle.question_lang.specs.declared.walk.Hop.{Hop}
use Rattle.question_lang.specs.Hops.{all_up, send_adjacent, send_over}
use Rattle.sym_forwarding.specs.Offers.{is_up_from}

-- the one route costs as much as the other and so much more
abbrev pub costs_more : ℕ → Option OspfRec → Option OspfRec → Bool
costs_more cost near far =
    option_map_or (λ d. option_map_or (λ further. d.cost == cost + further.cost) far false) near false

-- the adjacency is on a least walk to the first of these prefixes that contains the address
unfoldable pub leads_by : List File → Failures → ℕ → Addr → Adjacency → List Prefix → Bool
leads_by files failures router a x ps =
    option_map_or (λ p. is_on_least_walk files failures router p x) (find (λ p. covers p a) ps) false

-- the hops over those of some adjacencies that are up and on a least walk to the address
abbrev pub led_hops : List File → Failures → Packet → ℕ → Addr → List Adjacency → List Hop
led_hops files failures packet router a xs =
    map (send_adjacent files packet)
    (filter (λ x. is_up_from files failures router x && leads_by files failures router a x (advertised files)) xs)

-- where a router sends to a next hop
abbrev pub hops_towards : List File → Failures → Packet → ℕ → Addr → List Hop
hops_towards files failures packet router a =
    if list_any (λ x. covers x.subnet a) (up_interfaces files failures router)
    then send_over files packet (all_up files failures) (up_interfaces files failures router) a
    else map (send_adjacent files packet) (sent_towards files failures router a)
