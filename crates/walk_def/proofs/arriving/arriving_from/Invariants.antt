use Rattle.std.proofs.Common.{◌≡◌, ℕ, true, length}
use Rattle.walk_def.proofs.Known.{unknown_count}
use Rattle.walk_def.specs.Arriving.{AreArriving}
use Rattle.walk_def.specs.Marks.{known}
use Rattle.walk_def.proofs.arriving.arriving_from.Given as goal

-- a mark for each router; from each marked one hops lead to a first mark, and these are marked
abbrev pub invariant-rounds : goal.invariant-rounds
invariant-rounds l =
    (length l.marks.items ≡ length l.hops) × AreArriving l.hops l.landing l.marks.items ×
    ((router : ℕ) → known l.landing router ≡ true → known l.marks.items router ≡ true)

abbrev pub decreases-rounds : goal.decreases-rounds
decreases-rounds l = unknown_count l.marks.items
