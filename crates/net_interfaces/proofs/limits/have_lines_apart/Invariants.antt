use Rattle.std.proofs.Common.{◌≡◌, drop}
use Rattle.net_interfaces.specs.Limits.{each_pair, have_two_lines}
use Rattle.net_interfaces.proofs.limits.have_lines_apart.Given as goal

-- those that are left decide
abbrev pub invariant-loop-at : goal.invariant-loop-at
invariant-loop-at l = each_pair have_two_lines l.interfaces ≡ each_pair have_two_lines (drop l.at l.interfaces)
