-- What an OSPF process takes from the table of its router, by the shape of the BGP route of the slot and by its entry: what
-- the definitions of the network take from a slot, word by word on shapes.
use Rattle.std.specs.Prelude.{List, ◌++◌, false, if◌then◌else◌, Option, Some, None, option_and_then, option_map}
use Rattle.std.specs.List.{filter_map}
use Rattle.std.specs.Option.{option_to_list}
use Rattle.mw_text.specs.declared.address.Prefix.{Prefix}
use Rattle.ios_ast.specs.declared.file.File.{File}
use Rattle.ios_ast.specs.declared.ospf.Ospf.{Ospf}
use Rattle.ios_ast.specs.declared.ospf.Redist.{Redist}
use Rattle.ios_ast.specs.declared.ospf.Source.{Source}
use Rattle.ios_ast.specs.declared.ospf.Source.TheVariants as source
use Rattle.route_record.specs.declared.OspfRec.{OspfRec}
use Rattle.route_record.specs.declared.RibEntry.{RibEntry}
use Rattle.route_record.specs.declared.Slot.{Slot}
use Rattle.route_record.specs.declared.tracked.Tracked.{Tracked}
use Rattle.net_parts.specs.Origins.{external_record, is_taken, originated_default, plain_route}
use Rattle.route_shapes.specs.Bgp.{BgpShape}
use Rattle.route_shapes.specs.Shapes.{RouteShape, route_shape, shape_through_map}

-- what the route map of a line sees of a BGP route: its path and communities beside what it sees of any route
abbrev pub shape_of_bgp : Tracked → Redist → BgpShape → RouteShape
shape_of_bgp tracked line x =
    record (route_shape tracked (plain_route line 1)) { path = x.path; communities = x.communities }

-- and of the routes of a slot
abbrev pub shape_seen : Tracked → Redist → Option BgpShape → Option RouteShape
shape_seen tracked line bgp = by_source line.source where
  by_source : Source → Option RouteShape
  by_source source.Connected = Some (route_shape tracked (plain_route line 20))
  by_source source.Static = Some (route_shape tracked (plain_route line 20))
  by_source (source.Bgp asn) = option_map (shape_of_bgp tracked line) bgp
  by_source (source.Ospf process) = None

-- the external route of what a map leaves
abbrev pub shape_external : RouteShape → OspfRec
shape_external s = external_record s.type1 s.preferences.med

-- what OSPF takes of what the map of a line leaves
abbrev pub shape_left : Tracked → File → Prefix → Redist → Option BgpShape → Option OspfRec
shape_left tracked file p line bgp =
    option_map shape_external
    (option_and_then (shape_through_map tracked file.policies line.map p false) (shape_seen tracked line bgp))

-- the record that a line brings into OSPF
abbrev pub shape_into_ospf : Tracked → File → Prefix → Option BgpShape → Option RibEntry → Redist → Option OspfRec
shape_into_ospf tracked file p bgp rib line =
    option_and_then (λ entry. if is_taken line p entry.source then shape_left tracked file p line bgp else None) rib

-- a slot of which the entry alone is known
abbrev pub entry_slot : Option RibEntry → Slot
entry_slot rib = record { ospf = None; bgp = None; rib = rib }

-- all records that a process takes
unfoldable pub shape_redistributed : Tracked → File → Ospf → Prefix → Option BgpShape → Option RibEntry → List OspfRec
shape_redistributed tracked file process p bgp rib =
    filter_map (shape_into_ospf tracked file p bgp rib) process.redistribute
    ++ option_to_list (option_and_then (originated_default p (entry_slot rib)) process.default)
