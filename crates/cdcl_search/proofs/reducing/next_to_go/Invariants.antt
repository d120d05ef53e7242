use Rattle.std.specs.Prelude.{IfSome}
use Rattle.clause_arena.specs.Held.{code_of}
use Rattle.clause_arena.specs.Watched.{Stands}
use Rattle.cdcl_search.proofs.reducing.next_to_go.Given as goal

abbrev pub invariant-loop : goal.invariant-loop
invariant-loop l = record { stands : IfSome l.at (Stands l.arena (code_of l.fn.lit)) }
