use Rattle.std.proofs.Common.{◌≡◌, ℕ, List, Some, length}
use Rattle.std.specs.Prelude.{slice_get}
use Rattle.question_lang.specs.declared.walk.Hop.{Hop}
use Rattle.walk_def.proofs.AllHops.{IsSent}
use Rattle.walk_def.proofs.hops.all_hops.Given as goal

-- the hops of each router so far
abbrev pub invariant-loop-at : goal.invariant-loop-at
invariant-loop-at l =
    (length l.hops-inside.items.items ≡ l.at) ×
    ((router : ℕ) (own : List Hop) → slice_get l.hops-inside.items.items router ≡ Some own
    → IsSent l.net.files l.world router own)
