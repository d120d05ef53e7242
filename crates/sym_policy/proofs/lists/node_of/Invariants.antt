use Rattle.std.proofs.Common.{◌≡◌, drop}
use Rattle.term_store.specs.Terms.{Reading}
use Rattle.term_arith.specs.Bits.{bits}
use Rattle.route_shapes.specs.Shapes.{marked}
use Rattle.sym_policy.proofs.lists.node_of.Given as goal

abbrev pub invariant-loop-i : goal.invariant-loop-i
invariant-loop-i l = (w : Reading)
    → marked (drop l.i l.tracked) (bits w (drop l.i l.marks)) l.value ≡ marked l.tracked (bits w l.marks) l.value
