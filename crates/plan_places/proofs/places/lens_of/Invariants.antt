use Rattle.std.proofs.Common.{◌≡◌}
use Rattle.plan_places.specs.Plans.{lens_below}
use Rattle.plan_places.proofs.places.lens_of.Given as goal

abbrev pub invariant-loop-len : goal.invariant-loop-len
invariant-loop-len l = l.lens.items ≡ lens_below l.plan l.len
