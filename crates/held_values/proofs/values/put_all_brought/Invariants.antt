use Rattle.std.proofs.Common.{◌≡◌, drop}
use Rattle.std.specs.Prelude.{fold}
use Rattle.std.specs.List.{flat_map}
use Rattle.held_values.specs.Values.{brought_by_file}
use Rattle.slot_places.specs.Values.{put_once}
use Rattle.held_values.proofs.values.put_all_brought.Given as goal

abbrev pub invariant-loop-file : goal.invariant-loop-file
invariant-loop-file l =
    fold put_once l.held (flat_map brought_by_file (drop l.file-index l.files))
    ≡ fold put_once l.fn.held (flat_map brought_by_file l.fn.files)
