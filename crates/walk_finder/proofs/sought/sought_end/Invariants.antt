use Rattle.std.proofs.Common.{◌≡◌, ℕ, ◌<◌, get_or}
use Rattle.question_lang.specs.declared.walk.End.{End}
use Rattle.question_lang.specs.declared.walk.Hop.{Hop}
use Rattle.question_lang.specs.declared.walk.Hop.TheVariants.{Ends}
use Rattle.sym_forwarding.specs.Forwardings.{IsSought}
use Rattle.walk_finder.proofs.sought.sought_end.Given as goal

-- none so far has an end that the question looks for
abbrev pub invariant-loop-hop : goal.invariant-loop-hop
invariant-loop-hop l =
    (k : ℕ) (d : Hop) (end : End) → k < l.hop-index → get_or l.own k d ≡ Ends end →
    IsSought l.net.files l.world l.kind l.router end → ⊥
