use Rattle.std.proofs.Common.{◌≡◌, ◌<◌, ℕ, get_or}
use Rattle.question_lang.specs.declared.walk.Hop.{Hop}
use Rattle.packet_fates.specs.Reaching.{hops_at}
use Rattle.packet_fates.specs.Rounds.{ComesBackBy}
use Rattle.packet_fates.proofs.rounds.is_round.Given as goal

-- no hop so far leads to where hops lead back from
abbrev pub invariant-loop-hop : goal.invariant-loop-hop
invariant-loop-hop l =
    (k : ℕ) (hop : Hop) → k < l.hop-index → get_or l.own k hop ≡ hop → ComesBackBy (hops_at l.all) l.router hop → ⊥
