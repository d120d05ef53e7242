use Rattle.std.proofs.Common.{◌≡◌, ◌++◌, drop}
use Rattle.std.specs.List.{filter_map}
use Rattle.net_parts.specs.Origins as origins
use Rattle.proto_rib.proofs.into_ospf.by_lines.Given as goal

-- the records so far, with those of the lines that are left, are all
abbrev pub invariant-loop-line : goal.invariant-loop-line
invariant-loop-line l =
    l.made-inside.items.items ++ filter_map (origins.into_ospf l.file l.p l.slot) (drop l.line-index l.line-items)
    ≡ filter_map (origins.into_ospf l.file l.p l.slot) l.process.redistribute
