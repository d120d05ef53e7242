-- Which values the numbers of a held BGP route can have, of whom it can be learnt and what its originator can be, whatever
-- announcements come and whatever links fail (RFC 4271, sections 5.1.2 to 5.1.5; RFC 4456, section 8; Cisco IOS,
-- `neighbor weight`, `set weight`, `set local-preference`, `set metric`, `redistribute metric` and `set as-path prepend`).
use Rattle.std.specs.Prelude.{◌≡◌, ℕ, ◌-◌, ◌==◌, Bool, true, false, length, map, List, [], ◌∷◌, ◌++◌, Option, Some, None, slice_get, if◌then◌else◌}
use Rattle.std.specs.Prelude.{◌||◌, ◌^◌, ◌+◌, fold, max, nat_lt, option_map}
use Rattle.std.specs.List.{filter_map, flat_map, list_any, range_with_len}
use Rattle.std.specs.Option.{option_map_or, option_to_list}
use Rattle.mw_text.specs.declared.address.Addr.{Addr}
use Rattle.ios_ast.specs.declared.bgp.Bgp.{Bgp}
use Rattle.ios_ast.specs.declared.bgp.Neighbour.{Neighbour}
use Rattle.ios_ast.specs.declared.file.File.{File}
use Rattle.ios_ast.specs.declared.ospf.Ospf.{Ospf}
use Rattle.ios_ast.specs.declared.ospf.Redist.{Redist}
use Rattle.ios_ast.specs.declared.policies.MapEntry.{MapEntry}
use Rattle.ios_ast.specs.declared.policies.RouteMap.{RouteMap}
use Rattle.ios_ast.specs.declared.policies.SetAct.{SetAct}
use Rattle.ios_ast.specs.declared.policies.SetAct.TheVariants as set
use Rattle.ios_ast.specs.Deciding.{carries}
use Rattle.ios_ast.specs.Paths.{first_of, last_of}
use Rattle.route_record.specs.declared.BgpRec.{BgpRec}
use Rattle.route_record.specs.declared.Learnt.{Learnt}
use Rattle.route_record.specs.declared.Learnt.TheVariants.{Local, Peer}
use Rattle.net_parts.specs.Exports.{router_id}
use Rattle.net_parts.specs.Ospf.{ospf_interfaces}
use Rattle.net_parts.specs.Sessions.{ends_of, is_outside}
use Rattle.slot_places.specs.Rooms.{dearest_interface, dearest_walk}
use Rattle.slot_places.specs.Values.{greatest, once, width_for}
use Rattle.held_values.specs.declared.numbers.HeldNumber.{HeldNumber}
use Rattle.held_values.specs.declared.numbers.HeldNumber.TheVariants.{Weight, LocalPref, Med, NextHop, FirstAs, LastAs}

-- the number of a route; the first and the last AS number of an empty path count as 0
abbrev pub number_of : HeldNumber → BgpRec → ℕ
number_of Weight rec = rec.weight
number_of LocalPref rec = rec.local_pref
number_of Med rec = rec.med
number_of NextHop rec = rec.next_hop.0
number_of FirstAs rec = first_of rec.path
number_of LastAs rec = last_of rec.path

-- what it can be without any line that says it: the weight of a local route or of another, the local preference of a
-- local route or one of an external peer, the MED of a connected or static route and of a message that has none, and no
-- next hop and no path
abbrev pub unsaid : HeldNumber → List ℕ
unsaid Weight = 0 ∷ 32768 ∷ []
unsaid LocalPref = 100 ∷ []
unsaid Med = 0 ∷ []
unsaid NextHop = 0 ∷ []
unsaid FirstAs = 0 ∷ []
unsaid LastAs = 0 ∷ []

-- what a neighbour line says: the weight of all that is learnt of the neighbour, the address that is the next hop, and
-- the AS number that stands in front of each path of another AS, and alone where that path was empty
abbrev pub said_of_neighbour : HeldNumber → Bgp → Neighbour → Option ℕ
said_of_neighbour Weight process neighbour = Some neighbour.weight
said_of_neighbour LocalPref process neighbour = None
said_of_neighbour Med process neighbour = None
said_of_neighbour NextHop process neighbour = Some neighbour.addr.0
said_of_neighbour FirstAs process neighbour = if process.asn == neighbour.asn then None else Some neighbour.asn
said_of_neighbour LastAs process neighbour = if process.asn == neighbour.asn then None else Some neighbour.asn

-- what a `redistribute` line says: the metric of what it brings in
abbrev pub said_of_redist : HeldNumber → Redist → Option ℕ
said_of_redist Weight line = None
said_of_redist LocalPref line = None
said_of_redist Med line = line.metric
said_of_redist NextHop line = None
said_of_redist FirstAs line = None
said_of_redist LastAs line = None

-- what a set line says: of numbers that are put in front of the path the first, and the last where it was empty
abbrev pub said_of_set : HeldNumber → SetAct → Option ℕ
said_of_set Weight (set.Weight n) = Some n
said_of_set LocalPref (set.LocalPref n) = Some n
said_of_set Med (set.Metric n) = Some n
said_of_set FirstAs (set.Prepend numbers) = slice_get numbers 0
said_of_set LastAs (set.Prepend numbers) = slice_get numbers (length numbers - 1)
said_of_set _ _ = None

abbrev pub said_in_entry : HeldNumber → MapEntry → List ℕ
said_in_entry which entry = filter_map (said_of_set which) entry.sets

abbrev pub said_in_map : HeldNumber → RouteMap → List ℕ
said_in_map which map = flat_map (said_in_entry which) map.entries

-- by the lines of a BGP process and by the route maps beside it; by a file without one nothing
abbrev pub said_by_process : HeldNumber → File → Bgp → List ℕ
said_by_process which file process =
    filter_map (said_of_neighbour which process) process.neighbours
    ++ (filter_map (said_of_redist which) process.redistribute ++ flat_map (said_in_map which) file.policies.maps)

abbrev pub said_in_file : HeldNumber → File → List ℕ
said_in_file which file = option_map_or (said_by_process which file) file.bgp []

-- all that it can be, but that a MED can be the metric of an OSPF route too
unfoldable pub values_of : HeldNumber → List File → List ℕ
values_of which files = unsaid which ++ flat_map (said_in_file which) files

-- ---- the metrics of OSPF routes, which local BGP routes take as their MED (RFC 4271, section 5.1.4)

-- the metrics of what a `redistribute` line of an OSPF process brings in: its own, or 1 of BGP routes and 20 of others
abbrev pub brought_by_line : Redist → List ℕ
brought_by_line line = 1 ∷ 20 ∷ option_to_list line.metric

-- those that the process brings in, its default route and the set lines of route maps among them
abbrev pub brought_by_process : File → Ospf → List ℕ
brought_by_process file process =
    flat_map brought_by_line process.redistribute
    ++ (option_to_list (option_map (λ line. line.metric) process.default)
    ++ flat_map (said_in_map Med) file.policies.maps)

abbrev pub brought_by_file : File → List ℕ
brought_by_file file = option_map_or (brought_by_process file) file.ospf []

abbrev pub dearest_brought : List File → ℕ
dearest_brought files = greatest (once (flat_map brought_by_file files))

-- what a router originates into OSPF costs no more, nor is its metric greater
abbrev pub dearest_origin : List File → ℕ
dearest_origin files = max (dearest_interface files) (dearest_brought files)

-- cost and metric of each OSPF route that a router holds have room in so many bits
unfoldable pub ospf_bits : List File → ℕ
ospf_bits files = width_for (dearest_origin files + dearest_walk files)

-- ---- all

-- the MED of a local route can be the metric of an OSPF route
abbrev pub is_held_value : HeldNumber → List File → ℕ → Bool
is_held_value Weight files n = carries (values_of Weight files) n
is_held_value LocalPref files n = carries (values_of LocalPref files) n
is_held_value Med files n = carries (values_of Med files) n || nat_lt n (2 ^ ospf_bits files)
is_held_value NextHop files n = carries (values_of NextHop files) n
is_held_value FirstAs files n = carries (values_of FirstAs files) n
is_held_value LastAs files n = carries (values_of LastAs files) n

-- the weights, local preferences, MEDs and next hops of held routes, and the first AS numbers of their paths
abbrev pub weights_of : List File → List ℕ
weights_of files = values_of Weight files

abbrev pub preferences_of : List File → List ℕ
preferences_of files = values_of LocalPref files

abbrev pub meds_of : List File → List ℕ
meds_of files = values_of Med files

abbrev pub next_hops_of : List File → List ℕ
next_hops_of files = values_of NextHop files

abbrev pub firsts_of : List File → List ℕ
firsts_of files = values_of FirstAs files

-- the addresses of peers: those of neighbour lines
abbrev pub peers_of : List File → List ℕ
peers_of files = flat_map (said_in_file NextHop) files

-- a route is local, or learnt of one of these
abbrev pub is_learnt_among : List ℕ → Learnt → Bool
is_learnt_among peers Local = true
is_learnt_among peers (Peer a) = carries peers a.0

abbrev pub lasts_of : List File → List ℕ
lasts_of files = values_of LastAs files

-- some router has an external peer, whose announcements can end in any AS number
abbrev pub has_peers : List File → Bool
has_peers files = list_any (λ end. is_outside end.far) (ends_of files)

-- the identifiers of the routers
abbrev pub router_ids : List File → List ℕ
router_ids files = map (λ router. (router_id files router).0) (range_with_len 0 (length files))

-- what the originator of a reflected route can be: the identifier of a router, and 0.0.0.0, which a router would set where
-- it learnt the route of an internal peer outside
abbrev pub originators_of : List File → List ℕ
originators_of files = 0 ∷ router_ids files

-- there is no address, or it is one of these
abbrev pub is_none_or_among : List ℕ → Option Addr → Bool
is_none_or_among addresses None = true
is_none_or_among addresses (Some a) = carries addresses a.0

-- the numbers of the route are among them, it is local or learnt of a neighbour, and its originator is a router if any
pub record HasHeldValues (files : List File) (rec : BgpRec) : Type 0 where
  pub from : is_learnt_among (peers_of files) rec.from ≡ true
  pub originator : is_none_or_among (originators_of files) rec.originator ≡ true
  pub weight : carries (weights_of files) rec.weight ≡ true
  pub local_pref : carries (preferences_of files) rec.local_pref ≡ true
  pub med : has_peers files ≡ false → is_held_value Med files rec.med ≡ true
  pub next_hop : carries (next_hops_of files) rec.next_hop.0 ≡ true
  pub first : carries (firsts_of files) (first_of rec.path) ≡ true
  pub last : has_peers files ≡ false → carries (lasts_of files) (last_of rec.path) ≡ true
