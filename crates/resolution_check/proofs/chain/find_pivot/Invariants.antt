use Rattle.std.proofs.Common.{◌≡◌, [], take, MatchOption}
use Rattle.resolution_check.proofs.Pivots.{met}
use Rattle.resolution_check.proofs.Literals.{IsOne}
use Rattle.resolution_check.proofs.chain.find_pivot.Given as goal

-- none was met so far, or one
abbrev pub invariant-loop-lit : goal.invariant-loop-lit
invariant-loop-lit l =
    let so_far = met l.marks (take l.lit-index l.clause) in
    MatchOption l.found (so_far ≡ []) (λ p. IsOne so_far p)
