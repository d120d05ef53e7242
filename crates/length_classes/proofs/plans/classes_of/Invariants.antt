use Rattle.std.proofs.Common.{◌≡◌, ◌≤◌}
use Rattle.length_classes.specs.Lists.{classes_below, cuts_to}
use Rattle.length_classes.proofs.plans.classes_of.Given as goal

-- the classes so far, and that of the next length
abbrev pub invariant-loop-len : goal.invariant-loop-len
invariant-loop-len l =
    (l.all-inside.items.items ≡ classes_below l.net.files l.len) ×
    (l.class ≡ cuts_to l.net.files l.len) × (l.class ≤ l.len)
