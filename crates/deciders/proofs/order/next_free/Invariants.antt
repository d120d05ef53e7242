use Rattle.std.proofs.Common.{◌≢◌, ℕ, ◌-◌, ◌<◌, ◌≤◌, slice_index_or}
use Rattle.deciders.specs.declared.decider.Value.TheVariants.{Free}
use Rattle.deciders.proofs.order.next_free.Given as goal

abbrev pub decreases-loop-at : goal.decreases-loop-at
decreases-loop-at l = l.count - l.at

abbrev pub invariant-loop-at : goal.invariant-loop-at
invariant-loop-at l =
    (v : ℕ) → l.fn.from ≤ v → v < l.at → slice_index_or l.fn.values v Free ≢ Free
