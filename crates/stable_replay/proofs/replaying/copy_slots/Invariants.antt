use Rattle.std.proofs.Common.{◌≡◌, ◌++◌, drop}
use Rattle.stable_replay.proofs.replaying.copy_slots.Given as goal

-- the slots so far, with those that are left, are all
abbrev pub invariant-loop-slot : goal.invariant-loop-slot
invariant-loop-slot l = l.made-inside.items.items ++ drop l.slot-index l.slots ≡ l.slots
