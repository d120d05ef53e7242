use Rattle.std.proofs.Common.{◌≡◌, ◌++◌, take, map}
use Rattle.std.specs.List.{flat_map}
use Rattle.std.specs.String.{string_bytes}
use Rattle.resolution_check.specs.Text.{after_space, lit_text}
use Rattle.resolution_check.proofs.writing.write_lits.Given as goal

-- the words so far
abbrev pub invariant-loop-lit : goal.invariant-loop-lit
invariant-loop-lit l =
    string_bytes l.out ≡ string_bytes l.fn.out ++ flat_map after_space (map lit_text (take l.lit-index l.lits))
