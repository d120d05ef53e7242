use Rattle.std.proofs.Common.{◌≡◌, ◌++◌, drop, map}
use Rattle.net_parts.specs.Ospf.{advertised}
use Rattle.proto_ospf.specs.Reached.{reached}
use Rattle.proto_ospf.proofs.reached.all_distances.Given as goal

-- those so far, with those of the prefixes that are left, are all
abbrev pub invariant-loop-p : goal.invariant-loop-p
invariant-loop-p l =
    l.all-inside.items.items ++ map (reached l.net.files l.failures) (drop l.p-index (advertised l.net.files))
    ≡ map (reached l.net.files l.failures) (advertised l.net.files)
