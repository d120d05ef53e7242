use Rattle.std.proofs.Common.{◌≡◌, drop, None}
use Rattle.std.specs.Prelude.{fold}
use Rattle.net_refusals.specs.Refusals.{earlier, too_many_at}
use Rattle.net_refusals.proofs.many.too_many_line.Given as goal

-- the first line so far, with those that are left, decides
abbrev pub invariant-loop-x : goal.invariant-loop-x
invariant-loop-x l =
    fold (λ first x. earlier first (too_many_at l.most l.known l.said x)) l.first (drop l.x-index l.said)
    ≡ fold (λ first x. earlier first (too_many_at l.most l.known l.said x)) None l.said
