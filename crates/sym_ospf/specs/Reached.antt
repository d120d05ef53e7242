-- What a router reaches: over a subnet, or by an advertised prefix.
use Rattle.std.specs.Prelude.{ℕ, ◌==◌, ◌&&◌, Bool, List, Option, option_map, option_and_then}
use Rattle.std.specs.List.{find}
use Rattle.mw_text.specs.declared.address.Addr.{Addr}
use Rattle.mw_text.specs.declared.address.Prefix.{Prefix}
use Rattle.mw_text.specs.Address.{covers}
use Rattle.ios_ast.specs.declared.file.File.{File}
use Rattle.route_record.specs.declared.Failures.{Failures}
use Rattle.route_record.specs.declared.OspfRec.{OspfRec}
use Rattle.net_interfaces.specs.declared.interfaces.Addressed.{Addressed}
use Rattle.net_parts.specs.Distances.{interior_distance}
use Rattle.net_parts.specs.World.{is_up}
use Rattle.sym_policy.specs.Held.{internal_route}

-- the interface is one of the router, is up, and has the address on its subnet
abbrev pub is_reached_by : List File → Failures → ℕ → Addr → Addressed → Bool
is_reached_by files failures router a x =
    ((x.id.router == router) && is_up files failures x) && covers x.subnet a

-- the interior distance to the first of these prefixes that contains the address, as an internal route
unfoldable pub found : List File → Failures → ℕ → Addr → List Prefix → Option OspfRec
found files failures router a ps =
    option_map internal_route (option_and_then (interior_distance files failures router) (find (λ p. covers p a) ps))
