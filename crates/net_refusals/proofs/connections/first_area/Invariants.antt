use Rattle.std.proofs.Common.{◌≡◌, drop, slice_get}
use Rattle.std.specs.List.{filter_map}
use Rattle.net_refusals.specs.Refusals.{area_of}
use Rattle.net_refusals.proofs.connections.first_area.Given as goal

-- the files that are left decide
abbrev pub invariant-loop-file : goal.invariant-loop-file
invariant-loop-file l =
    slice_get (filter_map area_of l.files) 0 ≡ slice_get (filter_map area_of (drop l.file-index l.files)) 0
