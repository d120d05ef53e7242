use Rattle.std.proofs.Common.{◌≡◌, ◌++◌, drop, map}
use Rattle.net_parts.specs.Ospf.{adjacencies}
use Rattle.net_parts.specs.OspfRoutes.{far_record}
use Rattle.stable_replay.proofs.ospf.far_records.Given as goal

-- those so far, with those of the adjacencies that are left, are all
abbrev pub invariant-loop-a : goal.invariant-loop-a
invariant-loop-a l =
    l.made.items ++ map (far_record l.tables l.p) (drop l.a-index (adjacencies l.net.files))
    ≡ map (far_record l.tables l.p) (adjacencies l.net.files)
