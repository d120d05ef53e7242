-- At which prefix lengths some line of the files may tell a prefix from the one of the same destination that is a bit
-- shorter. Between two cuts all lengths are the same to every line.
use Rattle.std.specs.Prelude.{ℕ, ◌+◌, ◌==◌, ◌&&◌, ◌||◌, Bool, true, false, not, List, [], max}
use Rattle.std.specs.List.{list_any}
use Rattle.std.specs.Option.{option_map_or}
use Rattle.ios_ast.specs.declared.bgp.BgpNet.{BgpNet}
use Rattle.ios_ast.specs.declared.file.File.{File}
use Rattle.ios_ast.specs.declared.ospf.Redist.{Redist}
use Rattle.ios_ast.specs.declared.policies.MapEntry.{MapEntry}
use Rattle.ios_ast.specs.declared.policies.Match.{Match}
use Rattle.ios_ast.specs.declared.policies.Match.TheVariants.{Access, Prefixes, Communities, Paths}
use Rattle.ios_ast.specs.declared.policies.PrefixEntry.{PrefixEntry}
use Rattle.ios_ast.specs.declared.policies.PrefixList.{PrefixList}
use Rattle.ios_ast.specs.declared.policies.RouteMap.{RouteMap}
use Rattle.net_interfaces.specs.Interfaces.{addressed}
use Rattle.net_parts.specs.declared.ospf.OspfInterface.{OspfInterface}
use Rattle.net_parts.specs.Ospf.{ospf_interfaces}

-- a prefix of length m stands alone: a cut is at its length, and at the next one
abbrev pub bounds : ℕ → ℕ → Bool
bounds l m = (m == l) || (m + 1 == l)

-- an entry of a prefix list begins to take at its lower length, which is no less than its prefix's, and ends after the
-- upper one
abbrev pub bounds_entry : ℕ → PrefixEntry → Bool
bounds_entry l e = (max e.prefix.len e.low == l) || (e.high + 1 == l)

abbrev pub bounds_list : ℕ → PrefixList → Bool
bounds_list l list = list_any (bounds_entry l) list.entries

-- the lengths of networks of class A, B and C (RFC 791, section 3.2)
abbrev pub bounds_class : ℕ → Bool
bounds_class l = bounds l 8 || (bounds l 16 || bounds l 24)

-- a line of redistribution into OSPF takes classful networks alone
abbrev pub is_classful_only : Redist → Bool
is_classful_only line = not line.subnets

-- `match ip address` with an access list
abbrev pub is_access : Match → Bool
is_access (Access names) = true
is_access (Prefixes names) = false
is_access (Communities names) = false
is_access (Paths names) = false

abbrev pub asks_access : MapEntry → Bool
asks_access e = list_any is_access e.matches

abbrev pub uses_access : RouteMap → Bool
uses_access m = list_any asks_access m.entries

abbrev pub networks_of : File → List BgpNet
networks_of file = option_map_or (λ bgp. bgp.networks) file.bgp []

-- redistribution into OSPF
abbrev pub redistributed_into : File → List Redist
redistributed_into file = option_map_or (λ ospf. ospf.redistribute) file.ospf []

-- a line of the file makes a cut there: a static route or a `network` line of BGP, an entry of a prefix list,
-- redistribution of classful networks alone, or an access list in a route map, which makes one at every length
unfoldable pub is_cut_by : ℕ → File → Bool
is_cut_by l file =
    list_any (λ route. bounds l route.prefix.len) file.statics
    || (list_any (λ line. bounds l line.prefix.len) (networks_of file)
    || (list_any (bounds_list l) file.policies.prefix_lists
    || ((bounds_class l && list_any is_classful_only (redistributed_into file))
    || list_any uses_access file.policies.maps)))

-- a loopback that runs OSPF advertises its address
abbrev pub bounds_loopback : ℕ → OspfInterface → Bool
bounds_loopback l x = x.at.loopback && bounds l 32

-- a cut is at length 1, where an interface's subnet begins and ends, at 32 where a loopback runs OSPF, and where a line
-- of some file makes one
unfoldable pub is_cut : List File → ℕ → Bool
is_cut files l =
    (l == 1)
    || (list_any (λ x. bounds l x.subnet.len) (addressed files)
    || (list_any (bounds_loopback l) (ospf_interfaces files)
    || list_any (is_cut_by l) files))
