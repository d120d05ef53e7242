use Rattle.std.proofs.Common.{◌≡◌, ◌++◌, drop}
use Rattle.std.specs.List.{filter_map}
use Rattle.net_parts.specs.Ospf.{ospf_at}
use Rattle.net_parts.proofs.ospf.ospf_interfaces.Given as goal

-- those so far, with those of the interfaces that are left, are all
abbrev pub invariant-loop-x : goal.invariant-loop-x
invariant-loop-x l =
    l.all-inside.items.items ++ filter_map (ospf_at l.files) (drop l.x-index l.addresses)
    ≡ filter_map (ospf_at l.files) l.addresses
