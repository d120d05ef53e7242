use Rattle.std.proofs.Common.{◌≡◌, drop}
use Rattle.std.specs.Prelude.{fold}
use Rattle.std.specs.List.{filter_map}
use Rattle.held_values.specs.Values.{said_of_redist}
use Rattle.slot_places.specs.Values.{put_once}
use Rattle.held_values.proofs.values.put_redists.Given as goal

abbrev pub invariant-loop-line : goal.invariant-loop-line
invariant-loop-line l =
    fold put_once l.held
    (filter_map (said_of_redist l.which) (drop l.line-index l.process.redistribute))
    ≡ fold put_once l.fn.held (filter_map (said_of_redist l.which) l.process.redistribute)
