use Rattle.std.proofs.Common.{◌≡◌, ◌++◌, drop}
use Rattle.std.specs.List.{filter_map}
use Rattle.net_parts.specs.Origins as origins
use Rattle.proto_rib.proofs.local.add_redistributed.Given as goal

-- the routes so far, with those of the lines that are left, are all
abbrev pub invariant-loop-line : goal.invariant-loop-line
invariant-loop-line l =
    l.out-inside.items.items
    ++ filter_map (origins.into_bgp l.net.files l.router l.file l.p l.slot) (drop l.line-index l.line-items)
    ≡ l.fn.out ++ filter_map (origins.into_bgp l.net.files l.router l.file l.p l.slot) l.process.redistribute
