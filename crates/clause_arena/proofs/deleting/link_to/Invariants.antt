use Rattle.std.proofs.Common.{◌≡◌, ◌⊎◌, length}
use Rattle.clause_arena.specs.Links.{places, after}
use Rattle.mw_text.specs.Members.{In}
use Rattle.clause_arena.proofs.deleting.link_to.Given as goal

abbrev pub invariant-loop-link : goal.invariant-loop-link
invariant-loop-link l = record {
  here : (l.link ≡ l.code) ⊎ In l.link (places l.words l.code);
  ahead : In l.place (after l.link l.code (places l.words l.code));
}

abbrev pub decreases-loop-link : goal.decreases-loop-link
decreases-loop-link l = length (after l.link l.code (places l.words l.code))
