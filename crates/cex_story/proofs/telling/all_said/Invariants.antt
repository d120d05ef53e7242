use Rattle.std.proofs.Common.{◌≡◌, map, take}
use Rattle.cex_story.proofs.telling.all_said.Given as goal

-- the standings so far
abbrev pub invariant-loop-at : goal.invariant-loop-at
invariant-loop-at l = map (λ said. said.standing) l.saids-inside.items.items ≡ take l.at l.walk.hops
