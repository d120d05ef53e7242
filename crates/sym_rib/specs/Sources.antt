-- The candidates for an entry of a routing table, one at a time.
use Rattle.std.specs.Prelude.{ℕ, ◌&&◌, Bool, not, if◌then◌else◌, List, ◌++◌, Option, Some, None, fold}
use Rattle.std.specs.Prelude.{option_and_then, option_map}
use Rattle.std.specs.Option.{option_to_list}
use Rattle.mw_text.specs.declared.address.Prefix.{Prefix}
use Rattle.mw_text.specs.Address.{same_prefix}
use Rattle.ios_ast.specs.declared.file.File.{File}
use Rattle.ios_ast.specs.declared.file.StaticRoute.{StaticRoute}
use Rattle.route_record.specs.declared.OspfRec.{OspfRec}
use Rattle.route_record.specs.declared.RibEntry.{RibEntry}
use Rattle.route_record.specs.declared.Failures.{Failures}
use Rattle.route_record.specs.declared.RibSource.TheVariants.{Static, Ebgp, Ospf, Ibgp}
use Rattle.net_interfaces.specs.declared.interfaces.Addressed.{Addressed}
use Rattle.net_parts.specs.declared.sessions.SessionEnd.{SessionEnd}
use Rattle.net_parts.specs.Routing.{candidates, closer, counts, least_distance, up_interfaces}
use Rattle.bgp_shapes.specs.Crossings.{end_numbered}

-- the closer of two entries that may be there, of equal distances the first
abbrev pub closer_of : Option RibEntry → Option RibEntry → Option RibEntry
closer_of best next = fold closer best (option_to_list next)

-- the entry of a static route that counts
abbrev pub static_candidate : StaticRoute → RibEntry
static_candidate route = record { source = Static; distance = route.distance }

-- the entry of a static route, where it is one to that prefix and counts
abbrev pub static_entry : List Addressed → Prefix → StaticRoute → Option RibEntry
static_entry up p route =
    if same_prefix route.prefix p && counts up route then Some (static_candidate route) else None

-- an end of the kind that is asked for
abbrev pub is_of_kind : Bool → SessionEnd → Bool
is_of_kind internal end = if internal then end.internal else not end.internal

-- the entry of a route that was learnt over an end
abbrev pub entry_over : SessionEnd → RibEntry
entry_over end =
    if end.internal then record { source = Ibgp; distance = 200 } else record { source = Ebgp; distance = 20 }

abbrev pub learnt_entry : List File → ℕ → ℕ → Option RibEntry
learnt_entry files router n = option_map entry_over (end_numbered files router n)

-- the entry of an OSPF route that is held, unless an own origin is as good
abbrev pub ospf_candidate : Bool → OspfRec → Option RibEntry
ospf_candidate own held = if own then None else Some (record { source = Ospf; distance = 110 })

-- the entry of a router's table from what is looked at of its slot: the number that tells where its BGP route was learnt,
-- and its OSPF route
abbrev pub entry_from : List File → Failures → ℕ → File → Prefix → Option ℕ → Option OspfRec → Bool → Option RibEntry
entry_from files failures router file p learnt ospf own =
    least_distance (candidates (up_interfaces files failures router) file.statics p
    ++ option_to_list (option_and_then (learnt_entry files router) learnt)
    ++ option_to_list (option_and_then (ospf_candidate own) ospf))

-- the same, by an entry of BGP and by whether OSPF gives one
abbrev pub entry_read : List File → Failures → ℕ → File → Prefix → Option RibEntry → Bool → Option RibEntry
entry_read files failures router file p bgp ospf =
    closer_of
    (closer_of (least_distance (candidates (up_interfaces files failures router) file.statics p)) bgp)
    (if ospf then Some (record { source = Ospf; distance = 110 }) else None)
