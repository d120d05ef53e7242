use Rattle.std.proofs.Common.{◌≡◌, ◌*◌, length, map}
use Rattle.std.specs.Prelude.{drop}
use Rattle.clause_arena.specs.Links.{word}
use Rattle.clause_arena.specs.Compacted.{packed}
use Rattle.clause_arena.proofs.Planning.{IsPlanned}
use Rattle.clause_arena.proofs.compacting.plan.Given as goal

abbrev pub invariant-loop-i : goal.invariant-loop-i
invariant-loop-i l = record {
  planned : IsPlanned l.vars (length l.words) (word l.words) l.refs l.moved l.end l.i;
  dense : packed (2 * l.vars) (map (word l.words) l.refs) ≡ packed l.end (drop l.i (map (word l.words) l.refs));
}
