use Rattle.std.proofs.Common.{◌≡◌, ◌==◌, ◌++◌, drop, filter, not}
use Rattle.async_machine.proofs.failing.mended.Given as goal

-- those so far, with those that are left, are all
abbrev pub invariant-loop-at : goal.invariant-loop-at
invariant-loop-at l =
    l.links-inside.items.items ++ filter (λ k. not (k == l.link)) (drop l.at-index l.at-items)
    ≡ filter (λ k. not (k == l.link)) l.failures.links
