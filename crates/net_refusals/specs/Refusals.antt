-- Which files form no network: the rules that they keep, and the first line that breaks one.
use Rattle.std.specs.Prelude.{ℕ, ◌+◌, ◌==◌, ◌&&◌, ◌||◌, Bool, true, false, not, nat_lt, nat_le, List, [], ◌∷◌, length}
use Rattle.std.specs.Prelude.{take, map, filter, fold, min, slice_get, Option, Some, None, option_and_then, option_map}
use Rattle.std.specs.Prelude.{if◌then◌else◌}
use Rattle.std.specs.List.{filter_map, list_any}
use Rattle.std.specs.Option.{option_map_or, option_or}
use Rattle.mw_text.specs.declared.address.Addr.{Addr}
use Rattle.mw_text.specs.Address.{prefix_at, same_prefix}
use Rattle.mw_text.specs.Text.{same_text}
use Rattle.ios_ast.specs.declared.bgp.Bgp.{Bgp}
use Rattle.ios_ast.specs.declared.bgp.Neighbour.{Neighbour}
use Rattle.ios_ast.specs.declared.file.File.{File}
use Rattle.ios_ast.specs.declared.file.IfAddr.{IfAddr}
use Rattle.ios_ast.specs.declared.file.Iface.{Iface}
use Rattle.ios_ast.specs.declared.file.StaticRoute.{StaticRoute}
use Rattle.ios_ast.specs.declared.file.Use.{Use}
use Rattle.ios_ast.specs.declared.file.Via.{Via}
use Rattle.ios_ast.specs.declared.file.Via.TheVariants.{Null0, Next, Out}
use Rattle.ios_ast.specs.declared.ospf.Ospf.{Ospf}
use Rattle.ios_ast.specs.declared.ospf.OspfNet.{OspfNet}
use Rattle.ios_ast.specs.declared.ospf.Redist.{Redist}
use Rattle.ios_ast.specs.declared.ospf.Source.{Source}
use Rattle.ios_ast.specs.declared.ospf.Source.TheVariants.{Connected, Static, Bgp as FromBgp, Ospf as FromOspf}
use Rattle.ios_ast.specs.declared.policies.MapEntry.{MapEntry}
use Rattle.ios_ast.specs.declared.policies.Match.{Match}
use Rattle.ios_ast.specs.declared.policies.Match.TheVariants.{Access, Prefixes, Communities, Paths}
use Rattle.ios_ast.specs.declared.policies.RouteMap.{RouteMap}
use Rattle.net_refusals.specs.declared.refusals.NetCause.{NetCause}
use Rattle.net_refusals.specs.declared.refusals.NetCause.TheVariants.{Undefined, SameName, SameAddress, SubnetClash}
use Rattle.net_refusals.specs.declared.refusals.NetCause.TheVariants.{NextHopNotConnected, ExternalInternalPeer}
use Rattle.net_refusals.specs.declared.refusals.NetCause.TheVariants.{SecondArea, NetLimit, Memory}
use Rattle.net_refusals.specs.declared.refusals.NetRefused.{NetRefused}
use Rattle.net_interfaces.specs.declared.interfaces.TheConstants.{MOST_FILES}
use Rattle.net_interfaces.specs.declared.values.Said.{Said}
use Rattle.net_interfaces.specs.declared.values.TheConstants.{MOST_COMMUNITIES}
use Rattle.route_record.specs.declared.tracked.TheConstants.{MOST_TRACKED}
use Rattle.net_refusals.specs.declared.undefined.Kind.{Kind}
use Rattle.net_refusals.specs.declared.undefined.Kind.TheVariants.{Interface, AccessList, PrefixList, CommunityList}
use Rattle.net_refusals.specs.declared.undefined.Kind.TheVariants.{PathList, Map}
use Rattle.net_interfaces.specs.Interfaces.{is_loopback}
use Rattle.net_interfaces.specs.Connected.{is_connected, overlap, reaches}
use Rattle.net_interfaces.specs.Values.{ordered, said_communities, said_numbers, tracked_communities, tracked_numbers}

-- the earlier of two lines, where there are any
abbrev pub earlier : Option ℕ → Option ℕ → Option ℕ
earlier None b = b
earlier (Some a) None = Some a
earlier (Some a) (Some b) = Some (min a b)

-- the earliest line at which one of some parts breaks a rule
abbrev pub least : {A : Type 0} → (A → Option ℕ) → List A → Option ℕ
least line parts = fold (λ first part. earlier first (line part)) None parts

-- the line of a part that breaks a rule
abbrev pub line_if : Bool → ℕ → Option ℕ
line_if broken line = if broken then Some line else None

-- ---- hostnames, addresses and subnets

-- the hostname, which an earlier file has too
abbrev pub same_name_line : List File → File → Option ℕ
same_name_line before file =
    line_if (list_any (λ other. same_text other.hostname file.hostname) before) file.hostname_line

abbrev pub has_address : Addr → Iface → Bool
has_address a iface = option_map_or (λ own. own.addr.0 == a.0) iface.address false

abbrev pub some_has : Addr → List File → Bool
some_has a files = list_any (λ file. list_any (has_address a) file.interfaces) files

-- the interface has the same address, by an earlier line
abbrev pub has_above : IfAddr → Iface → Bool
has_above own iface =
    option_map_or (λ other. nat_lt other.line own.line && (other.addr.0 == own.addr.0)) iface.address false

-- the `ip address` line of an address that an interface of an earlier file has, or of an earlier line of this one
abbrev pub taken_line : List File → File → Iface → Option ℕ
taken_line before file iface =
    option_and_then (λ own. line_if (some_has own.addr before || list_any (has_above own) file.interfaces) own.line)
    iface.address

abbrev pub same_address_line : List File → File → Option ℕ
same_address_line before file = least (taken_line before file) file.interfaces

abbrev pub addresses_overlap : IfAddr → IfAddr → Bool
addresses_overlap a b = overlap (prefix_at a.addr a.len) (prefix_at b.addr b.len)

abbrev pub are_on_one : IfAddr → IfAddr → Bool
are_on_one a b = same_prefix (prefix_at a.addr a.len) (prefix_at b.addr b.len)

-- the subnet overlaps that of an interface of another router, unless they are one subnet and neither is a loopback's
abbrev pub clashes_abroad : IfAddr → Bool → Iface → Bool
clashes_abroad own loopback iface =
    option_map_or (λ other. addresses_overlap own other
    && not (are_on_one own other && not (loopback || is_loopback iface.name)))
    iface.address false

-- it overlaps that of an interface of the same router, by an earlier line
abbrev pub clashes_above : IfAddr → Iface → Bool
clashes_above own iface =
    option_map_or (λ other. nat_lt other.line own.line && addresses_overlap own other) iface.address false

-- the subnet clashes with that of an interface of an earlier file, or of an earlier line of this one
abbrev pub clashes : List File → File → IfAddr → Bool → Bool
clashes before file own loopback =
    list_any (λ f. list_any (clashes_abroad own loopback) f.interfaces) before
    || list_any (clashes_above own) file.interfaces

-- the `ip address` line of such a subnet
abbrev pub clash_line : List File → File → Iface → Option ℕ
clash_line before file iface =
    option_and_then (λ own. line_if (clashes before file own (is_loopback iface.name)) own.line) iface.address

abbrev pub subnet_clash_line : List File → File → Option ℕ
subnet_clash_line before file = least (clash_line before file) file.interfaces

-- ---- uses of what the file does not define

-- a list or a map without entries is not defined
abbrev pub has_entries : {A : Type 0} → List A → Bool
has_entries entries = nat_lt 0 (length entries)

-- the file defines what has that name
abbrev pub is_known : File → Kind → List ℕ → Bool
is_known file Interface name = list_any (λ iface. same_text iface.name name) file.interfaces
is_known file AccessList name = list_any (λ l. same_text l.name name && has_entries l.entries) file.policies.access
is_known file PrefixList name =
    list_any (λ l. same_text l.name name && has_entries l.entries) file.policies.prefix_lists
is_known file CommunityList name =
    list_any (λ l. same_text l.name name && has_entries l.entries) file.policies.communities
is_known file PathList name = list_any (λ l. same_text l.name name && has_entries l.entries) file.policies.as_paths
is_known file Map name = list_any (λ l. same_text l.name name && has_entries l.entries) file.policies.maps

abbrev pub undefined_use : File → Kind → Use → Option ℕ
undefined_use file kind named = line_if (not (is_known file kind named.name)) named.line

abbrev pub undefined_option : File → Kind → Option Use → Option ℕ
undefined_option file kind named = option_and_then (undefined_use file kind) named

abbrev pub undefined_uses : File → Kind → List Use → Option ℕ
undefined_uses file kind uses = least (undefined_use file kind) uses

-- the access lists of an interface
abbrev pub undefined_in_interface : File → Iface → Option ℕ
undefined_in_interface file iface =
    earlier (undefined_option file AccessList iface.list_in) (undefined_option file AccessList iface.list_out)

abbrev pub undefined_in_interfaces : File → Option ℕ
undefined_in_interfaces file = least (undefined_in_interface file) file.interfaces

-- the interface that a static route names
abbrev pub undefined_in_static : File → StaticRoute → Option ℕ
undefined_in_static file route = by_via route.via where
  by_via : Via → Option ℕ
  by_via Null0 = None
  by_via (Next a) = None
  by_via (Out named a) = undefined_use file Interface named

abbrev pub undefined_in_statics : File → Option ℕ
undefined_in_statics file = least (undefined_in_static file) file.statics

abbrev pub runs_process : ℕ → File → Bool
runs_process process file = option_map_or (λ own. own.process == process) file.ospf false

abbrev pub runs_as : ℕ → File → Bool
runs_as asn file = option_map_or (λ own. own.asn == asn) file.bgp false

-- the file has what is redistributed
abbrev pub has_source : File → Source → Bool
has_source file Connected = true
has_source file Static = true
has_source file (FromBgp asn) = runs_as asn file
has_source file (FromOspf process) = runs_process process file

-- the source and the map of a `redistribute` line
abbrev pub undefined_in_redist : File → Redist → Option ℕ
undefined_in_redist file redist =
    earlier (line_if (not (has_source file redist.source)) redist.line) (undefined_option file Map redist.map)

abbrev pub undefined_in_redists : File → List Redist → Option ℕ
undefined_in_redists file redists = least (undefined_in_redist file) redists

-- the interfaces that are passive or are not, and the `redistribute` lines, of the OSPF process
abbrev pub undefined_in_process : File → Ospf → Option ℕ
undefined_in_process file process =
    earlier (earlier (undefined_uses file Interface process.passive) (undefined_uses file Interface process.active))
    (undefined_in_redists file process.redistribute)

abbrev pub undefined_in_ospf : File → Option ℕ
undefined_in_ospf file = option_and_then (undefined_in_process file) file.ospf

-- the prefix lists and AS-path lists of a neighbour
abbrev pub undefined_in_lists : File → Neighbour → Option ℕ
undefined_in_lists file neighbour =
    earlier (earlier (undefined_option file PrefixList neighbour.prefix_in)
    (undefined_option file PrefixList neighbour.prefix_out))
    (earlier (undefined_option file PathList neighbour.filter_in) (undefined_option file PathList neighbour.filter_out))

-- its `update-source` interface, its lists and its maps
abbrev pub undefined_in_neighbour : File → Neighbour → Option ℕ
undefined_in_neighbour file neighbour =
    earlier (earlier (undefined_option file Interface neighbour.source) (undefined_in_lists file neighbour))
    (earlier (undefined_option file Map neighbour.map_in) (undefined_option file Map neighbour.map_out))

abbrev pub undefined_in_neighbours : File → List Neighbour → Option ℕ
undefined_in_neighbours file neighbours = least (undefined_in_neighbour file) neighbours

abbrev pub undefined_in_networks : File → Bgp → Option ℕ
undefined_in_networks file bgp = least (λ n. undefined_option file Map n.map) bgp.networks

-- the maps of `network` lines, the `redistribute` lines and the neighbours of the BGP process
abbrev pub undefined_in_as : File → Bgp → Option ℕ
undefined_in_as file bgp =
    earlier (earlier (undefined_in_networks file bgp) (undefined_in_redists file bgp.redistribute))
    (undefined_in_neighbours file bgp.neighbours)

abbrev pub undefined_in_bgp : File → Option ℕ
undefined_in_bgp file = option_and_then (undefined_in_as file) file.bgp

-- the lists of a `match` line
abbrev pub undefined_in_match : File → Match → Option ℕ
undefined_in_match file (Access uses) = undefined_uses file AccessList uses
undefined_in_match file (Prefixes uses) = undefined_uses file PrefixList uses
undefined_in_match file (Communities uses) = undefined_uses file CommunityList uses
undefined_in_match file (Paths uses) = undefined_uses file PathList uses

abbrev pub undefined_in_entry : File → MapEntry → Option ℕ
undefined_in_entry file entry = least (undefined_in_match file) entry.matches

abbrev pub undefined_in_map : File → RouteMap → Option ℕ
undefined_in_map file map = least (undefined_in_entry file) map.entries

abbrev pub undefined_in_maps : File → Option ℕ
undefined_in_maps file = least (undefined_in_map file) file.policies.maps

-- the first of all uses in the file that is not defined there
abbrev pub undefined_line : File → Option ℕ
undefined_line file =
    earlier (earlier (earlier (undefined_in_interfaces file) (undefined_in_statics file))
    (earlier (undefined_in_ospf file) (undefined_in_bgp file))) (undefined_in_maps file)

-- ---- next hops, external peers and areas

-- a static route whose next hop is not connected, at its own line
abbrev pub unconnected_route : List Iface → StaticRoute → Option ℕ
unconnected_route interfaces route = line_if (not (is_connected interfaces route)) route.line

abbrev pub unconnected_line : File → Option ℕ
unconnected_line file = least (unconnected_route file.interfaces) file.statics

-- the address is on the subnet of one of the interfaces, of that which is named where one is
abbrev pub reached_over : List Iface → Option Use → Addr → Bool
reached_over interfaces None a = list_any (reaches a) interfaces
reached_over interfaces (Some named) a =
    list_any (λ iface. same_text iface.name named.name && reaches a iface) interfaces

-- an external peer, shut down or not: no interface of the files has its address, which is on the subnet from which the
-- router speaks to it
abbrev pub is_outside : List File → File → Neighbour → Bool
is_outside files file neighbour =
    not (some_has neighbour.addr files) && reached_over file.interfaces neighbour.source neighbour.addr

-- an external peer that has the router's own AS number, at its `remote-as` line
abbrev pub internal_peer : List File → File → ℕ → Neighbour → Option ℕ
internal_peer files file asn neighbour =
    line_if ((neighbour.asn == asn) && is_outside files file neighbour) neighbour.line

abbrev pub internal_peer_of : List File → File → Bgp → Option ℕ
internal_peer_of files file bgp = least (internal_peer files file bgp.asn) bgp.neighbours

abbrev pub internal_peer_line : List File → File → Option ℕ
internal_peer_line files file = option_and_then (internal_peer_of files file) file.bgp

-- the area of the first `network` line of the file
abbrev pub area_of : File → Option ℕ
area_of file = option_and_then (λ process. option_map (λ line. line.area) (slice_get process.networks 0)) file.ospf

-- that of the first such line of all files
abbrev pub first_area : List File → Option ℕ
first_area files = slice_get (filter_map area_of files) 0

-- a `network` line of another area
abbrev pub second_area : ℕ → OspfNet → Option ℕ
second_area area line = line_if (not (line.area == area)) line.line

abbrev pub second_area_of : ℕ → Ospf → Option ℕ
second_area_of area process = least (second_area area) process.networks

abbrev pub second_area_line : List File → File → Option ℕ
second_area_line files file =
    option_and_then (λ area. option_and_then (second_area_of area) file.ospf) (first_area files)

-- ---- limits of a network

-- there are so many earlier files already
abbrev pub router_line : List File → File → Option ℕ
router_line before file = line_if (nat_le MOST_FILES (length before)) file.hostname_line

-- there are more values than that up to the line, those of earlier files included
abbrev pub too_many_at : ℕ → List ℕ → List Said → Said → Option ℕ
too_many_at most known said x =
    line_if (nat_lt most (length (ordered known (filter (λ y. nat_le y.line x.line) said)))) x.line

abbrev pub too_many_line : ℕ → List ℕ → List Said → Option ℕ
too_many_line most known said = least (too_many_at most known said) said

-- the hostname of a router too many, or the line of a tracked community or AS number too many
abbrev pub limit_line : List File → File → Option ℕ
limit_line before file =
    earlier (earlier (router_line before file)
    (too_many_line MOST_COMMUNITIES (tracked_communities before) (said_communities file)))
    (too_many_line MOST_TRACKED (tracked_numbers before) (said_numbers file))

-- ---- the first refusal

-- the first line of a file, which stands after some of the files, that breaks the rule
abbrev pub broken_line : NetCause → List File → List File → File → Option ℕ
broken_line SameName files before file = same_name_line before file
broken_line SameAddress files before file = same_address_line before file
broken_line SubnetClash files before file = subnet_clash_line before file
broken_line Undefined files before file = undefined_line file
broken_line NextHopNotConnected files before file = unconnected_line file
broken_line ExternalInternalPeer files before file = internal_peer_line files file
broken_line SecondArea files before file = second_area_line files file
broken_line NetLimit files before file = limit_line before file
broken_line Memory files before file = None

abbrev pub refused_at : NetCause → ℕ → ℕ → NetRefused
refused_at cause file line = record { file = file; line = line; cause = cause }

-- the first of the files, from that number on, that breaks the rule, and its first line that does
abbrev pub first_from : NetCause → List File → ℕ → List File → Option NetRefused
first_from cause files at [] = None
first_from cause files at (file ∷ rest) =
    option_map_or (λ line. Some (refused_at cause at line)) (broken_line cause files (take at files) file)
    (first_from cause files (at + 1) rest)

unfoldable pub first_broken : NetCause → List File → Option NetRefused
first_broken cause files = first_from cause files 0 files

-- the rules of a network, each by its first line that breaks it, in the order in which they are tested
abbrev pub same_name : List File → Option NetRefused
same_name files = first_broken SameName files

abbrev pub same_address : List File → Option NetRefused
same_address files = first_broken SameAddress files

abbrev pub subnet_clash : List File → Option NetRefused
subnet_clash files = first_broken SubnetClash files

abbrev pub undefined : List File → Option NetRefused
undefined files = first_broken Undefined files

abbrev pub next_hop_not_connected : List File → Option NetRefused
next_hop_not_connected files = first_broken NextHopNotConnected files

abbrev pub external_internal_peer : List File → Option NetRefused
external_internal_peer files = first_broken ExternalInternalPeer files

abbrev pub second_area_number : List File → Option NetRefused
second_area_number files = first_broken SecondArea files

abbrev pub net_limit : List File → Option NetRefused
net_limit files = first_broken NetLimit files

-- what was found already, else the first line that breaks one of three rules
abbrev pub refused_by_addresses : List File → Option NetRefused
refused_by_addresses files = option_or (option_or (same_name files) (same_address files)) (subnet_clash files)

abbrev pub refused_by_uses : Option NetRefused → List File → Option NetRefused
refused_by_uses found files =
    option_or (option_or (option_or found (undefined files)) (next_hop_not_connected files))
    (external_internal_peer files)

-- why the files form no network: by the first of the rules that they break
unfoldable pub first_refusal : List File → Option NetRefused
first_refusal files =
    option_or (option_or (refused_by_uses (refused_by_addresses files) files) (second_area_number files))
    (net_limit files)
