use Rattle.std.proofs.Common.{All, take}
use Rattle.route_record.specs.Fits.{FitsSlot}
use Rattle.route_record.proofs.fitting.read_slots.Given as goal

-- those read so far fit
abbrev pub invariant-loop-slot : goal.invariant-loop-slot
invariant-loop-slot l = All FitsSlot (take l.slot-index l.slots)
