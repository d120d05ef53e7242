use Rattle.std.proofs.Common.{◌≡◌, ◌<◌, ℕ, false, get_or}
use Rattle.packet_fates.specs.declared.fate.Fate.{Fate}
use Rattle.packet_fates.specs.Places.{is_same}
use Rattle.packet_fates.proofs.apart.has_fate.Given as goal

-- none so far is the fate
abbrev pub invariant-loop-other : goal.invariant-loop-other
invariant-loop-other l = (k : ℕ) (d : Fate) → k < l.other-index → is_same l.fate (get_or l.all k d) ≡ false
