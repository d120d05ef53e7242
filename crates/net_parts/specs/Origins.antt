-- What a router originates from its own routing table: redistribution into OSPF, the default route, and local BGP
-- routes (RFC 2328, section 12.4.4; RFC 4271, section 9.4; Cisco IOS, `redistribute`, `default-information originate`,
-- `network`).
use Rattle.std.specs.Prelude.{ℕ, ◌==◌, ◌&&◌, ◌||◌, ◌*◌, ◌^◌, Bool, true, false, not, List, [], ◌++◌, nat_lt, Option}
use Rattle.std.specs.Prelude.{Some, None, option_and_then, option_map, unwrap_or, if◌then◌else◌}
use Rattle.std.specs.List.{filter_map, list_any}
use Rattle.std.specs.Option.{option_map_or, option_to_list}
use Rattle.mw_text.specs.declared.address.Prefix.{Prefix}
use Rattle.mw_text.specs.Address.{same_prefix}
use Rattle.ios_ast.specs.declared.bgp.Bgp.{Bgp}
use Rattle.ios_ast.specs.declared.bgp.BgpNet.{BgpNet}
use Rattle.ios_ast.specs.declared.file.File.{File}
use Rattle.ios_ast.specs.declared.file.Use.{Use}
use Rattle.ios_ast.specs.declared.ospf.DefaultOrigin.{DefaultOrigin}
use Rattle.ios_ast.specs.declared.ospf.Ospf.{Ospf as OspfProcess}
use Rattle.ios_ast.specs.declared.ospf.Redist.{Redist}
use Rattle.ios_ast.specs.declared.ospf.Source.{Source}
use Rattle.ios_ast.specs.declared.ospf.Source.TheVariants as source
use Rattle.ios_ast.specs.Setting.{Attributes}
use Rattle.route_record.specs.declared.BgpRec.{BgpRec}
use Rattle.route_record.specs.declared.Learnt.TheVariants.{Local}
use Rattle.route_record.specs.declared.Origin.{Origin}
use Rattle.route_record.specs.declared.Origin.TheVariants.{Igp, Incomplete}
use Rattle.route_record.specs.declared.OspfKind.{OspfKind}
use Rattle.route_record.specs.declared.OspfKind.TheVariants.{Internal, Ext1, Ext2}
use Rattle.route_record.specs.declared.OspfRec.{OspfRec}
use Rattle.route_record.specs.declared.RibSource.{RibSource}
use Rattle.route_record.specs.declared.RibSource.TheVariants.{Connected, Static, Ebgp, Ospf, Ibgp}
use Rattle.route_record.specs.declared.Slot.{Slot}
use Rattle.ios_ast.specs.Maps.{through_map}
use Rattle.net_parts.specs.Mapping.{attributes_of, with_attributes}
use Rattle.net_parts.specs.Ospf.{ospf_interfaces}

-- the default route
abbrev pub is_default : Prefix → Bool
is_default p = p.len == 0

-- a network of class A, B or C (RFC 791, section 3.2): /8 where the first bit is 0, /16 after 10, /24 after 110
abbrev pub is_classful : Prefix → Bool
is_classful p =
    if nat_lt p.addr.0 (2 ^ 31) then p.len == 8
    else if nat_lt p.addr.0 (3 * 2 ^ 30) then p.len == 16
    else if nat_lt p.addr.0 (7 * 2 ^ 29) then p.len == 24
    else false

-- an external route with that metric: one of type 1 costs it, one of type 2 has it beside its cost
abbrev pub external_record : Bool → ℕ → OspfRec
external_record true metric = record { kind = Ext1; metric = 0; cost = metric }
external_record false metric = record { kind = Ext2; metric = metric; cost = 0 }

-- ---- redistribution into OSPF

-- the source of a `redistribute` line of an OSPF process is that of the table entry; of BGP routes external ones alone
abbrev pub is_from : Source → RibSource → Bool
is_from source.Connected Connected = true
is_from source.Static Static = true
is_from (source.Bgp asn) Ebgp = true
is_from _ _ = false

-- what the route map of such a line sees: the metric, 1 of a BGP route and 20 of another where the line names none, the
-- type, and of a BGP route its path and communities
abbrev pub plain_route : Redist → ℕ → Attributes
plain_route line metric = record {
  weight = 0;
  local_pref = 0;
  med = unwrap_or line.metric metric;
  origin = 2;
  path = [];
  communities = [];
  type1 = line.type1;
}

abbrev pub redistributed_route : Redist → Slot → Option Attributes
redistributed_route line slot = by_source line.source where
  by_source : Source → Option Attributes
  by_source source.Connected = Some (plain_route line 20)
  by_source source.Static = Some (plain_route line 20)
  by_source (source.Bgp asn) =
      option_map (λ held. record (plain_route line 1) { path = held.path; communities = held.communities }) slot.bgp
  by_source (source.Ospf process) = None

-- a line takes the prefix where the router's own entry is of its source; never the default route, and without `subnets`
-- classful networks alone
abbrev pub is_taken : Redist → Prefix → RibSource → Bool
is_taken line p entry = is_from line.source entry && (not (is_default p) && (line.subnets || is_classful p))

-- the record that a line brings into OSPF
abbrev pub into_ospf : File → Prefix → Slot → Redist → Option OspfRec
into_ospf file p slot line =
    option_and_then (λ entry.
    if is_taken line p entry.source
    then option_map (λ r. external_record r.type1 r.med)
    (option_and_then (through_map file.policies line.map p false) (redistributed_route line slot))
    else None) slot.rib

abbrev pub is_ospf_entry : RibSource → Bool
is_ospf_entry Ospf = true
is_ospf_entry _ = false

-- `default-information originate` gives the default route; without `always` only where the router has an entry for it
-- that is not OSPF's own
abbrev pub originated_default : Prefix → Slot → DefaultOrigin → Option OspfRec
originated_default p slot line =
    if is_default p && (line.always || option_map_or (λ entry. not (is_ospf_entry entry.source)) slot.rib false)
    then Some (external_record line.type1 line.metric) else None

-- all records that the process of a router takes from its own table: those of redistribution by line, and the default
unfoldable pub redistributed : File → OspfProcess → Prefix → Slot → List OspfRec
redistributed file process p slot =
    filter_map (into_ospf file p slot) process.redistribute
    ++ option_to_list (option_and_then (originated_default p slot) process.default)

-- ---- local BGP routes

-- a local route has weight 32768, local preference 100, no next hop and an empty path
abbrev pub local_route : Origin → ℕ → BgpRec
local_route origin med = record {
  from = Local;
  weight = 32768;
  local_pref = 100;
  path = [];
  origin = origin;
  med = med;
  communities = [];
  next_hop = record { 0 = 0 };
  originator = None;
  clusters = [];
}

-- the metric of an OSPF route: the cost of an internal one and of one of type 1, the metric of one of type 2
abbrev pub ospf_metric : OspfRec → ℕ
ospf_metric held = by_kind held.kind where
  by_kind : OspfKind → ℕ
  by_kind Internal = held.cost
  by_kind Ext1 = held.cost
  by_kind Ext2 = held.metric

-- the metric of the entry of a slot from connected, static or OSPF; there is none where the slot lacks its OSPF record
abbrev pub entry_metric : Slot → RibSource → Option ℕ
entry_metric slot Connected = Some 0
entry_metric slot Static = Some 0
entry_metric slot Ospf = option_map ospf_metric slot.ospf
entry_metric slot Ebgp = None
entry_metric slot Ibgp = None

-- a local route as the map of its line leaves it
abbrev pub local_through : File → Option Use → Prefix → BgpRec → Option BgpRec
local_through file used p rec =
    option_map (with_attributes rec) (through_map file.policies used p false (attributes_of rec))

-- the route of a `network` line
abbrev pub by_network : File → Prefix → Slot → BgpNet → Option BgpRec
by_network file p slot line =
    option_and_then (λ entry. option_and_then (λ med.
    if same_prefix line.prefix p then local_through file line.map p (local_route Igp med) else None)
    (entry_metric slot entry.source)) slot.rib

-- the kinds that a line takes of OSPF routes
abbrev pub takes_kind : Redist → OspfKind → Bool
takes_kind line Internal = line.internal
takes_kind line Ext1 = line.ext1
takes_kind line Ext2 = line.ext2

-- the interface of the router with that subnet runs OSPF
abbrev pub is_ospf_subnet : List File → ℕ → Prefix → Bool
is_ospf_subnet files router p =
    list_any (λ x. (x.at.id.router == router) && same_prefix x.at.subnet p) (ospf_interfaces files)

-- the metric with which a `redistribute` line of BGP takes the entry of a slot. Among OSPF routes a connected subnet
-- that runs OSPF counts as internal with metric 0
abbrev pub taken_metric : List File → ℕ → Prefix → Slot → Redist → RibSource → Option ℕ
taken_metric files router p slot line entry = by_source line.source entry where
  by_source : Source → RibSource → Option ℕ
  by_source source.Connected Connected = Some 0
  by_source source.Static Static = Some 0
  by_source (source.Ospf process) Connected =
      if line.internal && is_ospf_subnet files router p then Some 0 else None
  by_source (source.Ospf process) Ospf =
      option_and_then (λ held. if takes_kind line held.kind then Some (ospf_metric held) else None) slot.ospf
  by_source _ _ = None

-- the route that such a line brings into BGP: never the default route
abbrev pub into_bgp : List File → ℕ → File → Prefix → Slot → Redist → Option BgpRec
into_bgp files router file p slot line =
    option_and_then (λ entry. option_and_then (λ metric.
    if is_default p then None
    else local_through file line.map p (local_route Incomplete (unwrap_or line.metric metric)))
    (taken_metric files router p slot line entry.source)) slot.rib

-- the local routes of a router: by its `network` lines, and then by redistribution
unfoldable pub local_routes : List File → ℕ → File → Bgp → Prefix → Slot → List BgpRec
local_routes files router file process p slot =
    filter_map (by_network file p slot) process.networks
    ++ filter_map (into_bgp files router file p slot) process.redistribute
