-- The interior distances to all that OSPF advertises.
use Rattle.std.specs.Prelude.{ℕ, List, Option, option_and_then, map}
use Rattle.std.specs.List.{find}
use Rattle.mw_text.specs.declared.address.Addr.{Addr}
use Rattle.mw_text.specs.declared.address.Prefix.{Prefix}
use Rattle.mw_text.specs.Address.{covers}
use Rattle.ios_ast.specs.declared.file.File.{File}
use Rattle.route_record.specs.declared.Failures.{Failures}
use Rattle.net_parts.specs.Ospf.{advertised}
use Rattle.proto_ospf.specs.declared.reached.Reached.{Reached}
use Rattle.proto_ospf.specs.Rounds.{interior_distances, of_router}

-- a prefix with the interior distance of each router
abbrev pub reached : List File → Failures → Prefix → Reached
reached files failures p = record { to = p; distances = interior_distances files failures p }

-- every advertised prefix
abbrev pub all_reached : List File → Failures → List Reached
all_reached files failures = map (reached files failures) (advertised files)

-- the distance of a router to the first prefix that contains the address
abbrev pub to_first : List Reached → ℕ → Addr → Option ℕ
to_first all router a = option_and_then (λ x. of_router x.distances router) (find (λ x. covers x.to a) all)
