use Rattle.std.proofs.Common.{take}
use Rattle.std.specs.Prelude.{All}
use Rattle.sym_bgp.specs.Candidates.{SameMarks}
use Rattle.examples_symbols.proofs.sessions.are_alike.Given as goal

abbrev pub invariant-loop-c : goal.invariant-loop-c
invariant-loop-c l = All (λ c. SameMarks c.rec l.held) (take l.c-index l.candidates)
