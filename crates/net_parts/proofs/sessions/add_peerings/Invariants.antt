use Rattle.std.proofs.Common.{◌≡◌, ◌++◌, drop}
use Rattle.net_parts.specs.Sessions.{peerings_from}
use Rattle.net_parts.proofs.sessions.add_peerings.Given as goal

-- the lines so far, with those that are left, are all of the router
abbrev pub invariant-loop-at : goal.invariant-loop-at
invariant-loop-at l =
    l.out-inside.items.items ++ peerings_from l.own l.router l.file l.bgp.asn l.at (drop l.at l.bgp.neighbours)
    ≡ l.fn.out ++ peerings_from l.own l.router l.file l.bgp.asn 0 l.bgp.neighbours
