use Rattle.std.proofs.Common.{◌≢◌, ℕ, ◌<◌, get_or}
use Rattle.question_lang.specs.declared.walk.Hop.{Hop}
use Rattle.walk_def.proofs.once.stands_in.Given as goal

-- none so far is the hop
abbrev pub invariant-loop-other : goal.invariant-loop-other
invariant-loop-other l = (k : ℕ) (d : Hop) → k < l.other-index → get_or l.all k d ≢ l.hop
