use Rattle.std.proofs.Common.{◌≡◌}
use Rattle.length_classes.specs.Lists.{slices_below}
use Rattle.length_classes.proofs.plans.slices_of.Given as goal

abbrev pub invariant-loop-class : goal.invariant-loop-class
invariant-loop-class l = l.all-inside.items.items ≡ slices_below l.classes l.routers l.class
