use Rattle.std.proofs.Common.{◌≡◌, ◌++◌, take, map}
use Rattle.std.specs.List.{flat_map}
use Rattle.std.specs.Fmt.{decimal}
use Rattle.std.specs.String.{string_bytes}
use Rattle.resolution_check.specs.Text.{after_space}
use Rattle.resolution_check.proofs.writing.write_chain.Given as goal

-- the words so far
abbrev pub invariant-loop-number : goal.invariant-loop-number
invariant-loop-number l =
    string_bytes l.out ≡ string_bytes l.fn.out ++ flat_map after_space (map decimal (take l.number-index l.chain))
