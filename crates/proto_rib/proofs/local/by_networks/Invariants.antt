use Rattle.std.proofs.Common.{◌≡◌, ◌++◌, drop}
use Rattle.std.specs.List.{filter_map}
use Rattle.net_parts.specs.Origins as origins
use Rattle.proto_rib.proofs.local.by_networks.Given as goal

-- the routes so far, with those of the lines that are left, are all
abbrev pub invariant-loop-line : goal.invariant-loop-line
invariant-loop-line l =
    l.made-inside.items.items ++ filter_map (origins.by_network l.file l.p l.slot) (drop l.line-index l.line-items)
    ≡ filter_map (origins.by_network l.file l.p l.slot) l.process.networks
