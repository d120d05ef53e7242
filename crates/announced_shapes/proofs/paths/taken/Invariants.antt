use Rattle.std.proofs.Common.{◌≡◌, ◌++◌, drop, length}
use Rattle.announced_shapes.specs.Paths.{taken}
use Rattle.announced_shapes.specs.Sets.{marks_of}
use Rattle.announced_shapes.proofs.paths.taken.Given as goal

-- what is still to come is marked by what is left of the set
abbrev pub invariant-loop-t : goal.invariant-loop-t
invariant-loop-t l =
    l.made.items ++ taken (drop l.t-index l.tracked) (marks_of (length (drop l.t-index l.tracked)) l.rest)
    ≡ taken l.tracked (marks_of (length l.tracked) l.fn.set)
