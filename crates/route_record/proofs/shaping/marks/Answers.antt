use Rattle.std.proofs.Common.{◌+◌, ◌*◌, arith, sym, ap, ◌∙◌, if◌then◌else◌}
use Rattle.std.specs.List.{list_any}
use Rattle.route_record.proofs.Marks.{marked_room, marked_more}
use Rattle.route_record.proofs.shaping.marks.Goals as goal

pub with_mark-set-requires : goal.with_mark-set-requires
with_mark-set-requires g c =
    rw c.loop-i.invariant (marked_room _ c.args.tracked.now c.loop-i.i (omega arith) c.requires)

pub loop-i-preserved : goal.loop-i-preserved
loop-i-preserved g c =
    c.with_mark-set.ensures
    ∙ ap (λ n. (if c.contains-there.result then 1 else 0) + 2 * n) c.loop-i.invariant
    ∙ rw c.contains-there.ensures.value
    (sym (marked_more (λ x. list_any (λ y. g.T.PartialEq.eq y x) c.args.held.now) c.args.tracked.now c.loop-i.i
    c.index-tracked-i.result (omega arith) (omega arith) c.index-tracked-i.is))
