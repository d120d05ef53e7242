use Rattle.std.proofs.Common.{◌≡◌, ◌++◌, take}
use Rattle.std.specs.List.{flat_map}
use Rattle.std.specs.String.{string_bytes}
use Rattle.log_answers.specs.Answers.{lit_word}
use Rattle.log_answers.proofs.text.write_lits.Given as goal

-- the literals so far
abbrev pub invariant-loop-lit : goal.invariant-loop-lit
invariant-loop-lit l = string_bytes l.out ≡ string_bytes l.fn.out ++ flat_map lit_word (take l.lit-index l.lits)
