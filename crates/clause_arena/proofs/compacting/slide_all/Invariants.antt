use Rattle.std.proofs.Common.{◌≡◌, length}
use Rattle.clause_arena.specs.Links.{word}
use Rattle.clause_arena.proofs.Sliding.{HasSlidTo}
use Rattle.clause_arena.proofs.compacting.slide_all.Given as goal

abbrev pub invariant-loop-i : goal.invariant-loop-i
invariant-loop-i l = record {
  slid : HasSlidTo l.refs l.moved (word l.fn.words) (word l.words) l.vars l.i;
  len : length l.words ≡ length l.fn.words;
}
