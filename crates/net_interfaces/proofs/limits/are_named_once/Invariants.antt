use Rattle.std.proofs.Common.{◌≡◌, drop}
use Rattle.net_interfaces.specs.Limits.{each_pair, have_two_addresses}
use Rattle.net_interfaces.proofs.limits.are_named_once.Given as goal

-- those that are left decide
abbrev pub invariant-loop-at : goal.invariant-loop-at
invariant-loop-at l = each_pair have_two_addresses l.neighbours ≡ each_pair have_two_addresses (drop l.at l.neighbours)
