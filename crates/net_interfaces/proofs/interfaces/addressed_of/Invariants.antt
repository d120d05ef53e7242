use Rattle.std.proofs.Common.{◌≡◌, ◌++◌, drop, true}
use Rattle.std.specs.List.{list_all}
use Rattle.net_interfaces.specs.Interfaces.{addressed_routers}
use Rattle.net_interfaces.specs.Limits.{keeps_limits}
use Rattle.net_interfaces.proofs.interfaces.addressed_of.Given as goal

-- the interfaces so far and those of the routers that are left are all; these have not too many either
abbrev pub invariant-loop-router : goal.invariant-loop-router
invariant-loop-router l = record {
  interfaces : l.all ++ addressed_routers l.router (drop l.router l.files) ≡ addressed_routers 0 l.files;
  limits : list_all keeps_limits (drop l.router l.files) ≡ true;
}
