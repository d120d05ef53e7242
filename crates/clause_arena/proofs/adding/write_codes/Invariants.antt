use Rattle.std.proofs.Common.{ℕ, ◌≡◌, ◌+◌, ◌<◌, length, map}
use Rattle.clause_arena.specs.Links.{word}
use Rattle.clause_arena.specs.Held.{code_of}
use Rattle.clause_arena.proofs.adding.write_codes.Given as goal

abbrev pub invariant-loop-i : goal.invariant-loop-i
invariant-loop-i l = record {
  codes_at : (k : ℕ) → k < l.i → word l.words (l.at + k) ≡ word (map code_of l.lits) k;
  len : length l.words ≡ length l.fn.words;
  others : (j : ℕ) → j < l.at → word l.words j ≡ word l.fn.words j;
}
