use Rattle.std.proofs.Common.{◌≡◌, ◌++◌, drop}
use Rattle.std.specs.List.{flat_map}
use Rattle.net_parts.specs.Ospf.{adjacencies_of}
use Rattle.net_parts.proofs.adjacencies.adjacencies.Given as goal

-- those so far, with those of the interfaces that are left, are all
abbrev pub invariant-loop-a : goal.invariant-loop-a
invariant-loop-a l =
    l.all ++ flat_map (λ a. adjacencies_of a l.running) (drop l.a-index l.running)
    ≡ flat_map (λ a. adjacencies_of a l.running) l.running
