use Rattle.std.proofs.Common.{◌≡◌, ◌++◌, drop}
use Rattle.std.specs.List.{filter_map}
use Rattle.stable_replay.specs.Parts.{slot_left}
use Rattle.stable_replay.proofs.decided.slots_left.Given as goal

-- the slots so far, with those of the places that are left, are all
abbrev pub invariant-loop-at : goal.invariant-loop-at
invariant-loop-at l =
    l.made-inside.items.items ++ filter_map (slot_left l.candidates) (drop l.at-index l.left)
    ≡ filter_map (slot_left l.candidates) l.left
