-- Which subnets overlap, and which next hops are connected.
use Rattle.std.specs.Prelude.{◌&&◌, ◌||◌, Bool, true, false, List, Option, Some, None}
use Rattle.std.specs.List.{list_any}
use Rattle.std.specs.Option.{option_map_or}
use Rattle.mw_text.specs.declared.address.Addr.{Addr}
use Rattle.mw_text.specs.declared.address.Prefix.{Prefix}
use Rattle.mw_text.specs.Address.{covers, prefix_at}
use Rattle.mw_text.specs.Text.{same_text}
use Rattle.ios_ast.specs.declared.file.Iface.{Iface}
use Rattle.ios_ast.specs.declared.file.StaticRoute.{StaticRoute}
use Rattle.ios_ast.specs.declared.file.Via.{Via}
use Rattle.ios_ast.specs.declared.file.Via.TheVariants.{Null0, Next, Out}

-- one of two prefixes contains the other
abbrev pub overlap : Prefix → Prefix → Bool
overlap p q = covers p q.addr || covers q p.addr

-- the address lies on the subnet of the interface
abbrev pub reaches : Addr → Iface → Bool
reaches a iface = option_map_or (λ own. covers (prefix_at own.addr own.len) a) iface.address false

-- the address to which a static route hands its packets
abbrev pub next_hop : Via → Option Addr
next_hop Null0 = None
next_hop (Next a) = Some a
next_hop (Out named a) = Some a

-- a static route leads to Null0, or to an address on a subnet of the router, that of the interface which it names
abbrev pub is_connected : List Iface → StaticRoute → Bool
is_connected interfaces route = leads route.via where
  leads : Via → Bool
  leads Null0 = true
  leads (Next a) = list_any (reaches a) interfaces
  leads (Out named a) = list_any (λ iface. same_text iface.name named.name && reaches a iface) interfaces
