-- What lines say of interfaces and static routes (Cisco IOS command references).
use Rattle.std.specs.Prelude.{ℕ, false, min, List, None, codes, if◌then◌else◌}
use Rattle.mw_text.specs.declared.address.Addr.{Addr}
use Rattle.mw_text.specs.declared.words.Line.{Line}
use Rattle.ios_ast.specs.declared.file.Iface.{Iface}
use Rattle.ios_ast.specs.declared.file.IfAddr.{IfAddr}
use Rattle.ios_ast.specs.declared.file.Via.{Via}
use Rattle.ios_ast.specs.declared.file.Via.TheVariants.{Null0, Next, Out}
use Rattle.ios_ast.specs.declared.file.StaticRoute.{StaticRoute}
use Rattle.ios_policy_reader.specs.declared.said.Tag.TheVariants.{Address, Length, NextHop, Discard, Leaving, Distance}
use Rattle.ios_policy_reader.specs.declared.said.Said.{Said}
use Rattle.ios_policy_reader.specs.Names.{is_of_kind}
use Rattle.ios_policy_reader.specs.Said.{number_under, address_under, prefix_said, has_said}
use Rattle.ios_reader.specs.Names.{length_under, use_under}

-- the bandwidth by the kind of an interface, in kb/s; that of GigabitEthernet and Vlan stands last
abbrev pub default_bandwidth : List ℕ → ℕ
default_bandwidth name =
    if is_of_kind (codes "ethernet") name then 10000
    else if is_of_kind (codes "fastethernet") name then 100000
    else if is_of_kind (codes "tengigabitethernet") name then 10000000
    else if is_of_kind (codes "serial") name then 1544
    else if is_of_kind (codes "loopback") name then 8000000
    else 1000000

-- an interface of which only the name is read
abbrev pub new_interface : ℕ → List ℕ → Iface
new_interface line name = record {
  line = line;
  name = name;
  address = None;
  shutdown = false;
  bandwidth = default_bandwidth name;
  cost = None;
  list_in = None;
  list_out = None;
}

-- the address 0.0.0.0
abbrev pub no_address : Addr
no_address = record { 0 = 0 }

abbrev pub address_of : ℕ → List Said → IfAddr
address_of line said = record {
  line = line;
  addr = address_under Address said no_address;
  len = length_under Length said 0;
}

-- where a static route leads: to Null0, out of an interface to a next hop, or to a next hop
abbrev pub via_of : Line → List Said → Via
via_of line said =
    if has_said Discard said then Null0
    else if has_said Leaving said then Out (use_under Leaving said line) (address_under NextHop said no_address)
    else Next (address_under NextHop said no_address)

-- a static route has distance 1 where none is written
abbrev pub route_of : Line → List Said → StaticRoute
route_of line said = record {
  line = line.number;
  prefix = prefix_said said;
  via = via_of line said;
  distance = min (number_under Distance said 1) 255;
}
