use Rattle.std.proofs.Common.{ℕ, ◌<◌}
use Rattle.stable_replay.specs.Differences.{IsStableAt}
use Rattle.stable_replay.proofs.checking.first_over.Given as goal

-- all slots before the place are stable
abbrev pub invariant-loop-place : goal.invariant-loop-place
invariant-loop-place l = (k : ℕ) → k < l.place →
    IsStableAt l.routing.net.now.files l.d l.routing.failures.now l.routing.env.now l.routing.tables.now k
