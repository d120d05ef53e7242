use Rattle.std.proofs.Common.{◌≡◌, map, drop}
use Rattle.std.specs.List.{list_any}
use Rattle.route_record.specs.Shape.{marked_number}
use Rattle.route_record.proofs.shaping.marks.Given as goal

abbrev pub invariant-loop-i : goal.invariant-loop-i
invariant-loop-i g l = l.set
    ≡ marked_number (map (λ x. list_any (λ y. g.T.PartialEq.eq y x) l.held) (drop l.i l.tracked))
