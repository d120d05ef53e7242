use Rattle.std.proofs.Common.{arith, sym, ◌∙◌}
use Rattle.packet_fates.proofs.Firsts.{none_there, same_there}
use Rattle.packet_fates.proofs.apart.has_fate.Goals as goal

pub returns-then-is_same-clause-yes : goal.returns-then-is_same-clause-yes
returns-then-is_same-clause-yes c found =
    same_there c.args.all.now c.loop-other.other-index c.args.fate.now c.other-item.result c.loop-other-test.true
    c.other-item.is (sym c.is_same.ensures ∙ c.if-is_same.true)

pub returns-clause-no : goal.returns-clause-no
returns-clause-no c none =
    none_there c.args.all.now c.args.fate.now
    (λ k d within. c.loop-other.invariant k d (omega (arith, within, c.loop-other-test.false)))
