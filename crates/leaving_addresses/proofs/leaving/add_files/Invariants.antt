use Rattle.std.proofs.Common.{◌≡◌, ◌++◌, drop}
use Rattle.std.specs.List.{flat_map}
use Rattle.leaving_addresses.specs.Leaving.{neighbour_addresses}
use Rattle.leaving_addresses.proofs.leaving.add_files.Given as goal

-- the addresses so far, with those that are left, are all
abbrev pub invariant-loop-file : goal.invariant-loop-file
invariant-loop-file l =
    l.out ++ flat_map neighbour_addresses (drop l.file-index l.files)
    ≡ l.fn.out ++ flat_map neighbour_addresses l.files
