use Rattle.std.proofs.Common.{◌≡◌, drop}
use Rattle.std.specs.Prelude.{fold}
use Rattle.std.specs.List.{flat_map}
use Rattle.held_values.specs.Values.{said_in_file}
use Rattle.slot_places.specs.Values.{put_once}
use Rattle.held_values.proofs.values.put_files.Given as goal

abbrev pub invariant-loop-file : goal.invariant-loop-file
invariant-loop-file l =
    fold put_once l.held (flat_map (said_in_file l.which) (drop l.file-index l.files))
    ≡ fold put_once l.fn.held (flat_map (said_in_file l.which) l.files)
