-- From which router a route was learnt.
use Rattle.std.specs.Prelude.{ℕ, List, Option, None, option_and_then, option_map, slice_get, if◌then◌else◌}
use Rattle.ios_ast.specs.declared.file.File.{File}
use Rattle.net_parts.specs.declared.sessions.Far.{Far}
use Rattle.net_parts.specs.declared.sessions.Far.TheVariants.{Outside, Inside}
use Rattle.net_parts.specs.Sessions.{ends_of}
use Rattle.route_shapes.specs.Bgp.{BgpShape}
use Rattle.bgp_shapes.specs.Messages.{lacks_address}
use Rattle.rebuilt_routes.specs.Following.{numbered_end}

-- the router at the far side of a session, none where it is an external peer
abbrev pub router_behind : List File → Far → Option ℕ
router_behind files Outside = None
router_behind files (Inside far_at) = option_map (λ far. far.router) (slice_get (ends_of files) far_at)

-- the router from which a route of that shape was learnt, none of a local one and of one of an external peer
abbrev pub source_of : List File → ℕ → BgpShape → Option ℕ
source_of files router s =
    if lacks_address s.from then None
    else option_and_then (λ e. router_behind files e.1.far) (numbered_end files router s.from)
