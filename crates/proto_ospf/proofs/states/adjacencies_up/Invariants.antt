use Rattle.std.proofs.Common.{◌≡◌, ◌++◌, drop, map}
use Rattle.net_parts.specs.Ospf.{adjacencies, is_adjacency_up}
use Rattle.proto_ospf.proofs.states.adjacencies_up.Given as goal

-- those so far, with those of the adjacencies that are left, are all
abbrev pub invariant-loop-a : goal.invariant-loop-a
invariant-loop-a l =
    l.up-inside.items.items ++ map (is_adjacency_up l.net.files l.failures) (drop l.a-index (adjacencies l.net.files))
    ≡ map (is_adjacency_up l.net.files l.failures) (adjacencies l.net.files)
