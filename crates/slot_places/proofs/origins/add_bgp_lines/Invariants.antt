use Rattle.std.proofs.Common.{◌≡◌, ◌++◌, drop}
use Rattle.std.specs.List.{flat_map}
use Rattle.slot_places.specs.Origins.{taken_of_bgp}
use Rattle.slot_places.proofs.origins.add_bgp_lines.Given as goal

abbrev pub invariant-loop-line : goal.invariant-loop-line
invariant-loop-line l =
    l.made ++ flat_map (taken_of_bgp l.file) (drop l.line-index l.process.redistribute)
    ≡ l.fn.made ++ flat_map (taken_of_bgp l.file) l.process.redistribute
