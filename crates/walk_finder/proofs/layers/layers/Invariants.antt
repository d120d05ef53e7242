use Rattle.walk_finder.proofs.Marked.{AreSoFar}
use Rattle.walk_finder.proofs.layers.layers.Given as goal

-- the layers so far
abbrev pub invariant-loop-at : goal.invariant-loop-at
invariant-loop-at l = AreSoFar l.to_ends l.at l.rows l.all
