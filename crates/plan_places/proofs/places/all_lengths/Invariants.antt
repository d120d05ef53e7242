use Rattle.std.proofs.Common.{◌≡◌}
use Rattle.plan_places.specs.Plans.{numbers_below}
use Rattle.plan_places.proofs.places.all_lengths.Given as goal

abbrev pub invariant-loop-len : goal.invariant-loop-len
invariant-loop-len l = l.all-inside.items.items ≡ numbers_below l.len
