-- To which addresses packets can leave a network at a router, whatever announcements come and whatever links fail (RFC
-- 1812, section 5.2.4).
use Rattle.std.specs.Prelude.{ℕ, ◌==◌, ◌&&◌, Bool, not, List, [], ◌++◌, filter, map, slice_get}
use Rattle.std.specs.List.{filter_map, list_any}
use Rattle.std.specs.Option.{option_map_or}
use Rattle.mw_text.specs.declared.address.Addr.{Addr}
use Rattle.mw_text.specs.declared.address.Prefix.{Prefix}
use Rattle.mw_text.specs.Address.{covers, same_prefix}
use Rattle.ios_ast.specs.declared.file.File.{File}
use Rattle.net_interfaces.specs.declared.interfaces.Addressed.{Addressed}
use Rattle.net_interfaces.specs.Connected.{next_hop}
use Rattle.net_interfaces.specs.Interfaces.{addressed}
use Rattle.net_parts.specs.Tracked.{addresses_of}
use Rattle.held_values.specs.Values.{next_hops_of}

-- ---- next hops

-- the next hops of the static routes of a file
abbrev pub static_next_hops : File → List Addr
static_next_hops file = filter_map (λ route. next_hop route.via) file.statics

-- the addresses of the neighbour lines of a file
abbrev pub neighbour_addresses : File → List Addr
neighbour_addresses file = option_map_or (λ process. map (λ neighbour. neighbour.addr) process.neighbours) file.bgp []

-- the next hops that held BGP routes can have
abbrev pub bgp_next_hops : List File → List Addr
bgp_next_hops files = addresses_of (next_hops_of files)

-- the next hops of all routes that the router can have
abbrev pub next_hops_at : List File → ℕ → List Addr
next_hops_at files router = bgp_next_hops files ++ option_map_or static_next_hops (slice_get files router) []

-- ---- out of the network

-- the interface has the address on that subnet, and is not shut down
abbrev pub is_owner_on : Prefix → Addr → Addressed → Bool
is_owner_on subnet a x = not x.shutdown && ((x.addr.0 == a.0) && same_prefix x.subnet subnet)

-- the interface is one of the router and not shut down, the address is on its subnet, and no interface there has it
abbrev pub leads_out : List Addressed → ℕ → Addr → Addressed → Bool
leads_out all router a x =
    (x.id.router == router)
    && (not x.shutdown && (covers x.subnet a && not (list_any (is_owner_on x.subnet a) all)))

-- some interface does
abbrev pub can_leave : List Addressed → ℕ → Addr → Bool
can_leave all router a = list_any (leads_out all router a) all

-- the addresses to which packets can leave the network at the router: the next hops that lead out
abbrev pub leaving : List File → ℕ → List Addr
leaving files router = filter (can_leave (addressed files) router) (next_hops_at files router)
