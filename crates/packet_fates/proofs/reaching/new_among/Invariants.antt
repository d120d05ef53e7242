use Rattle.std.proofs.Common.{◌≡◌, ◌<◌, ℕ, true, get_or}
use Rattle.net_interfaces.specs.declared.interfaces.IfaceId.{IfaceId}
use Rattle.question_lang.specs.declared.walk.Hop.TheVariants.{To}
use Rattle.walk_def.specs.Marks.{known}
use Rattle.packet_fates.proofs.reaching.new_among.Given as goal

-- each hop so far ends or leads to a marked router
abbrev pub invariant-loop-hop : goal.invariant-loop-hop
invariant-loop-hop l =
    (k : ℕ) (i : IfaceId) → k < l.hop-index → get_or l.own k (To i) ≡ To i → known l.marks i.router ≡ true
