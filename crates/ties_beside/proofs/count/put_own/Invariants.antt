use Rattle.std.proofs.Common.{◌≡◌, ◌++◌, drop, map}
use Rattle.joined_terms.specs.Joining.{place_of}
use Rattle.ties_beside.specs.Count.{own_from}
use Rattle.ties_beside.proofs.count.put_own.Given as goal

-- the nodes so far, with those that are left, are all
abbrev pub invariant-loop-at : goal.invariant-loop-at
invariant-loop-at l =
    l.out ++ map (place_of l.places) (own_from l.pairs l.at (drop l.at l.ids))
    ≡ l.fn.out ++ map (place_of l.places) (own_from l.pairs 0 l.ids)
