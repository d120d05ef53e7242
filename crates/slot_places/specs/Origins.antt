-- What lines of the files can bring into OSPF for the prefixes of one length that contain some destination of a set
-- (RFC 2328, section 12.4; Cisco IOS, `redistribute` and `default-information originate`).
use Rattle.std.specs.Prelude.{ℕ, ◌==◌, ◌&&◌, Bool, true, false, not, List, [], ◌∷◌, ◌++◌, Some, None, filter, fold}
use Rattle.std.specs.Prelude.{is_some, map, option_map, slice_get, unwrap_or, if◌then◌else◌}
use Rattle.std.specs.List.{flat_map}
use Rattle.std.specs.Option.{option_map_or, option_to_list}
use Rattle.mw_text.specs.declared.address.Prefix.{Prefix}
use Rattle.ios_ast.specs.declared.file.File.{File}
use Rattle.ios_ast.specs.declared.file.StaticRoute.{StaticRoute}
use Rattle.ios_ast.specs.declared.ospf.DefaultOrigin.{DefaultOrigin}
use Rattle.ios_ast.specs.declared.ospf.Ospf.{Ospf}
use Rattle.ios_ast.specs.declared.ospf.Redist.{Redist}
use Rattle.ios_ast.specs.declared.ospf.Source.{Source}
use Rattle.ios_ast.specs.declared.ospf.Source.TheVariants as source
use Rattle.ios_ast.specs.declared.policies.SetAct.{SetAct}
use Rattle.ios_ast.specs.declared.policies.SetAct.TheVariants.{LocalPref, Metric, Weight, NoCommunity, Community}
use Rattle.ios_ast.specs.declared.policies.SetAct.TheVariants.{Origin, Prepend, Type1}
use Rattle.route_record.specs.declared.OspfKind.TheVariants.{Internal}
use Rattle.route_record.specs.declared.OspfRec.{OspfRec}
use Rattle.route_record.specs.declared.RibSource.{RibSource}
use Rattle.route_record.specs.declared.RibSource.TheVariants.{Connected, Static}
use Rattle.route_record.specs.declared.Slot.{Slot}
use Rattle.net_interfaces.specs.declared.interfaces.Addressed.{Addressed}
use Rattle.net_parts.specs.declared.ospf.OspfInterface.{OspfInterface}
use Rattle.net_interfaces.specs.Connected.{overlap}
use Rattle.net_interfaces.specs.Interfaces.{addressed}
use Rattle.ios_ast.specs.Maps.{entries_named}
use Rattle.net_parts.specs.Origins.{external_record, redistributed}
use Rattle.net_parts.specs.Ospf.{advertisement, ospf_interfaces}

-- the prefix has that length, and shares an address with the destinations
abbrev pub meets : Prefix → ℕ → Prefix → Bool
meets destinations len p = (p.len == len) && overlap p destinations

-- ---- interfaces that advertise a prefix

abbrev pub advertised_by : Prefix → ℕ → OspfInterface → List OspfRec
advertised_by destinations len x =
    if not x.at.shutdown && meets destinations len (advertisement x)
    then record { kind = Internal; metric = 0; cost = x.cost } ∷ [] else []

-- ---- connected and static routes that are redistributed

-- a slot whose entry is from that source
abbrev pub slot_from : RibSource → Slot
slot_from source = record { ospf = None; bgp = None; rib = Some (record { source = source; distance = 0 }) }

-- what the process of a router takes of a prefix whose entry is from that source
abbrev pub taken_from : RibSource → File → Prefix → List OspfRec
taken_from source file p = option_map_or (λ process. redistributed file process p (slot_from source)) file.ospf []

-- the subnet of an interface that is not shut down
abbrev pub is_subnet_at : Prefix → ℕ → Addressed → Bool
is_subnet_at destinations len x = not x.shutdown && meets destinations len x.subnet

abbrev pub taken_of_subnet : List File → Prefix → ℕ → Addressed → List OspfRec
taken_of_subnet files destinations len x =
    if is_subnet_at destinations len x
    then option_map_or (λ file. taken_from Connected file x.subnet) (slice_get files x.id.router) [] else []

-- a static route whose distance is not 255
abbrev pub is_static_at : Prefix → ℕ → StaticRoute → Bool
is_static_at destinations len route = not (route.distance == 255) && meets destinations len route.prefix

abbrev pub taken_of_static : Prefix → ℕ → File → StaticRoute → List OspfRec
taken_of_static destinations len file route =
    if is_static_at destinations len route then taken_from Static file route.prefix else []

-- ---- the default route

abbrev pub default_record : DefaultOrigin → OspfRec
default_record line = external_record line.type1 line.metric

abbrev pub default_of : ℕ → Ospf → List OspfRec
default_of len process = if len == 0 then option_to_list (option_map default_record process.default) else []

-- ---- BGP routes that are redistributed: their prefixes, paths and communities are not known, but what they become is

-- the metric and the type that a set line leaves
abbrev pub metric_after : ℕ → SetAct → ℕ
metric_after metric (LocalPref n) = metric
metric_after metric (Metric n) = n
metric_after metric (Weight n) = metric
metric_after metric NoCommunity = metric
metric_after metric (Community values additive) = metric
metric_after metric (Origin igp) = metric
metric_after metric (Prepend numbers) = metric
metric_after metric (Type1 type1) = metric

abbrev pub type1_after : Bool → SetAct → Bool
type1_after type1 (LocalPref n) = type1
type1_after type1 (Metric n) = type1
type1_after type1 (Weight n) = type1
type1_after type1 NoCommunity = type1
type1_after type1 (Community values additive) = type1
type1_after type1 (Origin igp) = type1
type1_after type1 (Prepend numbers) = type1
type1_after type1 (Type1 wanted) = wanted

-- what a line brings in where these lines set
abbrev pub external_after : Redist → List SetAct → OspfRec
external_after line sets =
    external_record (fold type1_after line.type1 sets) (fold metric_after (unwrap_or line.metric 1) sets)

abbrev pub is_of_bgp : Source → Bool
is_of_bgp source.Connected = false
is_of_bgp source.Static = false
is_of_bgp (source.Bgp asn) = true
is_of_bgp (source.Ospf process) = false

-- what a `redistribute bgp` line can bring in: one record by each entry of its map that permits
abbrev pub taken_of_bgp : File → Redist → List OspfRec
taken_of_bgp file line =
    if is_of_bgp line.source
    then option_map_or (λ named. map (λ e. external_after line e.sets)
    (filter (λ e. e.permit) (entries_named file.policies named))) line.map (external_after line [] ∷ [])
    else []

-- nothing where no BGP runs, and never the default route
abbrev pub taken_of_bgp_lines : ℕ → File → Ospf → List OspfRec
taken_of_bgp_lines len file process =
    if is_some file.bgp && not (len == 0) then flat_map (taken_of_bgp file) process.redistribute else []

-- ---- all together

abbrev pub by_process : ℕ → File → Ospf → List OspfRec
by_process len file process = default_of len process ++ taken_of_bgp_lines len file process

abbrev pub by_file : Prefix → ℕ → File → List OspfRec
by_file destinations len file =
    flat_map (taken_of_static destinations len file) file.statics
    ++ option_map_or (by_process len file) file.ospf []

-- all that lines of the files can bring into OSPF for such a prefix, whatever routing is stable
unfoldable pub origins_at : List File → Prefix → ℕ → List OspfRec
origins_at files destinations len =
    flat_map (advertised_by destinations len) (ospf_interfaces files)
    ++ flat_map (taken_of_subnet files destinations len) (addressed files)
    ++ flat_map (by_file destinations len) files
