use Rattle.std.proofs.Common.{◌≡◌, ◌-◌}
use Rattle.slot_places.specs.Values.{width_from}
use Rattle.slot_places.proofs.fields.width_for.Given as goal

abbrev pub invariant-loop-width : goal.invariant-loop-width
invariant-loop-width l = width_from l.number l.width (32 - l.width) ≡ width_from l.number 0 32
