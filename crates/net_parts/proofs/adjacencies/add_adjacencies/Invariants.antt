use Rattle.std.proofs.Common.{◌≡◌, ◌++◌, drop}
use Rattle.net_parts.specs.Ospf.{adjacencies_of}
use Rattle.net_parts.proofs.adjacencies.add_adjacencies.Given as goal

-- those so far, with those of the interfaces that are left, are all
abbrev pub invariant-loop-b : goal.invariant-loop-b
invariant-loop-b l =
    l.out-inside.items.items ++ adjacencies_of l.a (drop l.b-index l.running) ≡ l.fn.out ++ adjacencies_of l.a l.running
