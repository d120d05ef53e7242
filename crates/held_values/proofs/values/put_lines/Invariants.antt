use Rattle.std.proofs.Common.{◌≡◌, drop}
use Rattle.std.specs.Prelude.{fold}
use Rattle.std.specs.List.{flat_map}
use Rattle.held_values.specs.Values.{brought_by_line}
use Rattle.slot_places.specs.Values.{put_once}
use Rattle.held_values.proofs.values.put_lines.Given as goal

abbrev pub invariant-loop-line : goal.invariant-loop-line
invariant-loop-line l =
    fold put_once l.held (flat_map brought_by_line (drop l.line-index l.process.redistribute))
    ≡ fold put_once l.fn.held (flat_map brought_by_line l.process.redistribute)
