use Rattle.std.proofs.Common.{◌≡◌, ◌++◌, drop, map, option_map}
use Rattle.bgp_variables.specs.Environments.{peers_count}
use Rattle.path_rebuild.specs.Shapes.{route_of}
use Rattle.bgp_decoding.specs.Placed.{thing_in}
use Rattle.bgp_decoding.proofs.placing.placed.Given as goal

-- what is there already, and what stands at the places from here on
abbrev pub invariant-loop-p : goal.invariant-loop-p
invariant-loop-p l =
    map (option_map (route_of l.net.tracked)) l.made.items
    ++ map (λ p. option_map (route_of l.net.tracked) (thing_in l.lens (peers_count l.net.files) l.told p))
    (drop l.p-index l.places)
    ≡ map (λ p. option_map (route_of l.net.tracked) (thing_in l.lens (peers_count l.net.files) l.told p)) l.places
