-- The limits of a configuration file: so many interfaces and neighbours at most (the numbers are this project's), OSPF
-- costs in their range (RFC 2328, section 9; Cisco IOS, `ip ospf cost`), the lengths of prefix lists in their order
-- (Cisco IOS, `ip prefix-list`), each neighbour named once, and the addresses of interfaces by different lines.
use Rattle.std.specs.Prelude.{◌&&◌, ◌==◌, Bool, true, not, List, [], ◌∷◌, length, nat_le, nat_lt}
use Rattle.std.specs.List.{list_all}
use Rattle.std.specs.Option.{option_map_or}
use Rattle.ios_ast.specs.declared.bgp.Neighbour.{Neighbour}
use Rattle.ios_ast.specs.declared.file.File.{File}
use Rattle.ios_ast.specs.declared.file.Iface.{Iface}
use Rattle.ios_ast.specs.declared.file.TheConstants.{MOST_INTERFACES, MOST_NEIGHBOURS}
use Rattle.ios_ast.specs.declared.policies.PrefixEntry.{PrefixEntry}
use Rattle.ios_ast.specs.declared.policies.PrefixList.{PrefixList}

-- each item passes the test with every later one
abbrev pub each_pair : {A : Type 0} → (A → A → Bool) → List A → Bool
each_pair test [] = true
each_pair test (x ∷ rest) = list_all (test x) rest && each_pair test rest

-- `ip ospf cost`, where it is written, is from 1 to 65535
abbrev pub has_cost_in_range : Iface → Bool
has_cost_in_range iface = option_map_or (λ cost. nat_lt 0 cost && nat_le cost 65535) iface.cost true

-- `ip prefix-list`: the lengths that an entry takes are no less than its prefix's and no more than 32, and the least is
-- no more than the greatest
abbrev pub has_lengths_in_order : PrefixEntry → Bool
has_lengths_in_order entry =
    nat_le entry.prefix.len entry.low && (nat_le entry.low entry.high && nat_le entry.high 32)

-- so it is in each of the lists
abbrev pub have_lengths_in_order : List PrefixList → Bool
have_lengths_in_order lists = list_all (λ list. list_all has_lengths_in_order list.entries) lists

-- `neighbor remote-as`: the two neighbours have two addresses
abbrev pub have_two_addresses : Neighbour → Neighbour → Bool
have_two_addresses x y = not (x.addr.0 == y.addr.0)

-- `ip address`: no line gives both interfaces their address
abbrev pub have_two_lines : Iface → Iface → Bool
have_two_lines x y = option_map_or (λ a. option_map_or (λ b. not (a.line == b.line)) y.address true) x.address true

-- the router has not too many neighbour lines
abbrev pub has_few_neighbours : File → Bool
has_few_neighbours file = option_map_or (λ bgp. nat_le (length bgp.neighbours) MOST_NEIGHBOURS) file.bgp true

-- nor too many interfaces
abbrev pub has_few_interfaces : File → Bool
has_few_interfaces file = nat_le (length file.interfaces) MOST_INTERFACES

-- its BGP process names the address of each neighbour once
abbrev pub names_neighbours_once : File → Bool
names_neighbours_once file = option_map_or (λ bgp. each_pair have_two_addresses bgp.neighbours) file.bgp true

-- its interfaces have their addresses by different lines
abbrev pub has_address_lines_apart : File → Bool
has_address_lines_apart file = each_pair have_two_lines file.interfaces

-- the file keeps its limits
abbrev pub keeps_limits : File → Bool
keeps_limits file =
    has_few_interfaces file && (has_few_neighbours file && (list_all has_cost_in_range file.interfaces
    && (have_lengths_in_order file.policies.prefix_lists
    && (names_neighbours_once file && has_address_lines_apart file))))
