use Rattle.std.proofs.Common.{◌≡◌, ◌+◌, ◌++◌, drop, map, option_map}
use Rattle.term_store.specs.Terms.{truth}
use Rattle.bgp_variables.specs.Shapes.{bgps_width}
use Rattle.path_rebuild.specs.Shapes.{route_of}
use Rattle.bgp_values.proofs.RowSteps.{told_from}
use Rattle.bgp_values.proofs.rows.routes_at.Given as goal

-- where the variables of the rooms from here on begin, and what they say
abbrev pub invariant-loop-room : goal.invariant-loop-room
invariant-loop-room l =
    (l.at + bgps_width (drop l.room-index l.rooms) ≡ l.fn.from + bgps_width l.rooms)
    × (map (option_map (route_of l.tracked)) l.made.items ++ told_from (drop l.room-index l.rooms) (truth l.values) l.at
    ≡ told_from l.rooms (truth l.values) l.fn.from)
