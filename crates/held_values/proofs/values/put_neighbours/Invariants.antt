use Rattle.std.proofs.Common.{◌≡◌, drop}
use Rattle.std.specs.Prelude.{fold}
use Rattle.std.specs.List.{filter_map}
use Rattle.held_values.specs.Values.{said_of_neighbour}
use Rattle.slot_places.specs.Values.{put_once}
use Rattle.held_values.proofs.values.put_neighbours.Given as goal

abbrev pub invariant-loop-neighbour : goal.invariant-loop-neighbour
invariant-loop-neighbour l =
    fold put_once l.held
    (filter_map (said_of_neighbour l.which l.process) (drop l.neighbour-index l.process.neighbours))
    ≡ fold put_once l.fn.held (filter_map (said_of_neighbour l.which l.process) l.process.neighbours)
