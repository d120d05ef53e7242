use Rattle.std.proofs.Common.{◌≡◌, replicate}
use Rattle.machine_laws.specs.Events.{empty_slot}
use Rattle.async_machine.proofs.starting.empty_slots.Given as goal

abbrev pub invariant-loop-at : goal.invariant-loop-at
invariant-loop-at l = l.made-inside.items.items ≡ replicate l.at empty_slot
