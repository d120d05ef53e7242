use Rattle.std.proofs.Common.{◌≡◌, length}
use Rattle.walk_def.proofs.Arrivals.{AreLandingSoFar}
use Rattle.walk_def.proofs.arriving.landing.Given as goal

-- the marks of the routers so far
abbrev pub invariant-loop-at : goal.invariant-loop-at
invariant-loop-at l = (length l.marks.items ≡ l.at) × AreLandingSoFar l.net.files l.world l.target l.hops l.marks.items
