use Rattle.std.proofs.Common.{ℕ, ◌≡◌, ◌<◌, ◌≤◌, length}
use Rattle.clause_arena.specs.Links.{word}
use Rattle.clause_arena.specs.Compacted.{slid}
use Rattle.clause_arena.proofs.compacting.mend_heads.Given as goal

abbrev pub invariant-loop-n : goal.invariant-loop-n
invariant-loop-n l = record {
  heads : (k : ℕ) → k < l.n → word l.words k ≡ slid l.refs l.moved (word l.fn.words k);
  len : length l.words ≡ length l.fn.words;
  rest : (k : ℕ) → l.n ≤ k → word l.words k ≡ word l.fn.words k;
}
