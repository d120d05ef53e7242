-- Connected and static routes of a router for one prefix (RFC 1812, section 5.2.4).
use Rattle.std.specs.Prelude.{ℕ, ◌==◌, ◌&&◌, Bool, true, not, List, [], ◌∷◌, ◌++◌, filter, map, nat_lt, fold, Option}
use Rattle.std.specs.Prelude.{Some, None, if◌then◌else◌}
use Rattle.std.specs.List.{list_any}
use Rattle.mw_text.specs.declared.address.Addr.{Addr}
use Rattle.mw_text.specs.declared.address.Prefix.{Prefix}
use Rattle.mw_text.specs.Address.{covers, same_prefix}
use Rattle.ios_ast.specs.declared.file.File.{File}
use Rattle.ios_ast.specs.declared.file.StaticRoute.{StaticRoute}
use Rattle.ios_ast.specs.declared.file.Via.{Via}
use Rattle.ios_ast.specs.declared.file.Via.TheVariants.{Null0, Next, Out}
use Rattle.route_record.specs.declared.Failures.{Failures}
use Rattle.route_record.specs.declared.RibEntry.{RibEntry}
use Rattle.route_record.specs.declared.RibSource.TheVariants.{Connected, Static}
use Rattle.net_interfaces.specs.declared.interfaces.Addressed.{Addressed}
use Rattle.net_interfaces.specs.Interfaces.{addressed}
use Rattle.net_parts.specs.World.{is_up}

-- the interfaces of a router that have an address and are up
abbrev pub up_interfaces : List File → Failures → ℕ → List Addressed
up_interfaces files failures router =
    filter (λ x. (x.id.router == router) && is_up files failures x) (addressed files)

-- where no link has failed, the interfaces of a router that are up are those not shut down
abbrev pub open_interfaces : List Addressed → ℕ → List Addressed
open_interfaces all router = filter (λ x. (x.id.router == router) && (not x.shutdown && true)) all

-- an interface that is up has that subnet
abbrev pub is_direct : List Addressed → Prefix → Bool
is_direct up p = list_any (λ x. same_prefix x.subnet p) up

-- some interface that is up has the address on its subnet
abbrev pub is_reached : List Addressed → Addr → Bool
is_reached up a = list_any (λ x. covers x.subnet a) up

-- a static route counts where it goes to Null0 or its next hop is on the subnet of an interface that is up, and its
-- distance is not 255
abbrev pub counts : List Addressed → StaticRoute → Bool
counts up route = not (route.distance == 255) && leads route.via where
  leads : Via → Bool
  leads Null0 = true
  leads (Next a) = is_reached up a
  leads (Out iface a) = is_reached up a

-- the static routes of that prefix that count
abbrev pub static_routes : List Addressed → List StaticRoute → Prefix → List StaticRoute
static_routes up statics p = filter (λ route. same_prefix route.prefix p && counts up route) statics

-- the candidates for an entry, in the order that breaks equal distances
abbrev pub candidates : List Addressed → List StaticRoute → Prefix → List RibEntry
candidates up statics p =
    (if is_direct up p then record { source = Connected; distance = 0 } ∷ [] else [])
    ++ map (λ route. record { source = Static; distance = route.distance }) (static_routes up statics p)

-- of two entries the later one only where its distance is less
abbrev pub closer : Option RibEntry → RibEntry → Option RibEntry
closer None entry = Some entry
closer (Some best) entry = if nat_lt entry.distance best.distance then Some entry else Some best

-- the first candidate of least distance
abbrev pub least_distance : List RibEntry → Option RibEntry
least_distance entries = fold closer None entries
