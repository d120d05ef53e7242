use Rattle.std.proofs.Common.{◌≡◌, ◌++◌, drop, map}
use Rattle.std.specs.List.{enumerate_from}
use Rattle.path_rebuild.specs.Tables.{rebuilt_slot}
use Rattle.path_rebuild.proofs.tables.rebuilt_slots.Given as goal

-- what is there already, and what the slots from here on give
abbrev pub invariant-loop-place : goal.invariant-loop-place
invariant-loop-place l =
    l.made.items
    ++ map (rebuilt_slot l.net.tracked l.net.files l.env l.held l.rest l.d)
    (enumerate_from l.place (drop l.place l.rest.slots))
    ≡ map (rebuilt_slot l.net.tracked l.net.files l.env l.held l.rest l.d) (enumerate_from 0 l.rest.slots)
