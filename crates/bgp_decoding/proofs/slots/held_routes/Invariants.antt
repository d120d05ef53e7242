use Rattle.std.proofs.Common.{◌≡◌, ◌++◌, None, drop, length, map, option_map}
use Rattle.std.specs.Prelude.{if◌then◌else◌}
use Rattle.slot_places.specs.Rooms.{can_be_used}
use Rattle.path_rebuild.specs.Shapes.{route_of}
use Rattle.bgp_decoding.specs.Placed.{thing_in}
use Rattle.bgp_decoding.proofs.slots.held_routes.Given as goal

-- what is there already, and what the slots from here on hold
abbrev pub invariant-loop-p : goal.invariant-loop-p
invariant-loop-p l =
    map (option_map (route_of l.net.tracked)) l.made.items
    ++ map (λ p. if can_be_used l.net.files l.destinations p.router p.len
    then option_map (route_of l.net.tracked) (thing_in l.lens (length l.net.files) l.told p) else None)
    (drop l.p-index l.places)
    ≡ map (λ p. if can_be_used l.net.files l.destinations p.router p.len
    then option_map (route_of l.net.tracked) (thing_in l.lens (length l.net.files) l.told p) else None) l.places
