use Rattle.std.proofs.Common.{◌≡◌, ◌++◌, drop, filter}
use Rattle.net_parts.specs.Ospf.{adjacencies, receives}
use Rattle.proto_ospf.proofs.states.up_adjacencies.Given as goal

-- those so far, with those of the adjacencies that are left, are all
abbrev pub invariant-loop-a : goal.invariant-loop-a
invariant-loop-a l =
    l.up-inside.items.items ++ filter (receives l.net.files l.failures l.router) (drop l.a-index (adjacencies l.net.files))
    ≡ filter (receives l.net.files l.failures l.router) (adjacencies l.net.files)
