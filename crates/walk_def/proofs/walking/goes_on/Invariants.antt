use Rattle.question_lang.specs.Hops.{next_hops}
use Rattle.question_lang.specs.Walks.{GoesOn}
use Rattle.std.proofs.Common.{[]}
use Rattle.walk_def.proofs.Going.{GoesFrom}
use Rattle.walk_def.proofs.walking.goes_on.Given as goal

-- the whole goes on exactly where what is left does
abbrev pub invariant-loop-at : goal.invariant-loop-at
invariant-loop-at l =
    (GoesFrom (next_hops l.net.files l.world) l.standings l.end l.at
    → GoesOn (next_hops l.net.files l.world) [] l.standings l.end) ×
    (GoesOn (next_hops l.net.files l.world) [] l.standings l.end → GoesFrom (next_hops l.net.files l.world) l.standings l.end l.at)
