use Rattle.std.proofs.Common.{◌≡◌, ◌-◌}
use Rattle.ios_policy_reader.specs.Masks.{length_below}
use Rattle.ios_policy_reader.proofs.masks.length_of.Given as goal

-- the lengths that are left decide
abbrev pub invariant-loop-zeros : goal.invariant-loop-zeros
invariant-loop-zeros l = length_below l.m 33 ≡ length_below l.m (33 - l.zeros)
