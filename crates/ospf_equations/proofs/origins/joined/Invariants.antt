use Rattle.std.proofs.Common.{◌≡◌, ◌++◌}
use Rattle.std.specs.Vec.Iter.{into_iter_items}
use Rattle.ospf_equations.proofs.origins.joined.Given as goal

-- the routes so far, with those that are left, are all
abbrev pub invariant-loop-rec : goal.invariant-loop-rec
invariant-loop-rec l = l.all ++ into_iter_items l.rec-iterator ≡ l.fn.first ++ l.fn.others
