use Rattle.std.proofs.Common.{◌≡◌, ◌++◌, drop}
use Rattle.std.specs.List.{flat_map}
use Rattle.slot_places.specs.Origins.{by_file}
use Rattle.slot_places.proofs.origins.add_files.Given as goal

abbrev pub invariant-loop-file : goal.invariant-loop-file
invariant-loop-file l =
    l.made ++ flat_map (by_file l.destinations l.len) (drop l.file-index l.files)
    ≡ l.fn.made ++ flat_map (by_file l.destinations l.len) l.files
