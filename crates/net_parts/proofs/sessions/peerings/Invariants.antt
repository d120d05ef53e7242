use Rattle.std.proofs.Common.{◌≡◌, ◌++◌, drop, true}
use Rattle.std.specs.List.{list_all}
use Rattle.net_interfaces.specs.Limits.{keeps_limits}
use Rattle.net_parts.specs.Sessions.{peerings_routers}
use Rattle.net_parts.proofs.sessions.peerings.Given as goal

-- the lines so far, with those of the routers that are left, are all; these have not too many either
abbrev pub invariant-loop-router : goal.invariant-loop-router
invariant-loop-router l = record {
  lines : l.all ++ peerings_routers l.addresses l.router (drop l.router l.files)
      ≡ peerings_routers l.addresses 0 l.files;
  limits : list_all keeps_limits (drop l.router l.files) ≡ true;
}
