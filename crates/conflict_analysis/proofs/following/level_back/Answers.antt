use Rattle.std.proofs.Common.{◌∙◌, sym}
use Rattle.conflict_analysis.proofs.Backs.{back_other, back_second}
use Rattle.conflict_analysis.proofs.following.level_back.Goals as goal

pub returns-then-before-ne1 : goal.returns-then-before-ne1
returns-then-before-ne1 c = λ kept t b e there m.
    back_other c.args.trail.now.lits.items c.args.trail.now.levels.items kept c.args.clause.now c.args.back c.args.at t
    b m (λ one two. c.if-before-ne1.true (sym e ∙ one))

pub returns-then-clause-ne2 : goal.returns-then-clause-ne2
returns-then-clause-ne2 c = λ kept t b e there m.
    back_other c.args.trail.now.lits.items c.args.trail.now.levels.items kept c.args.clause.now c.args.back c.args.at t
    b m (λ one two. c.if-clause-ne2.true two)

pub returns : goal.returns
returns c = λ kept t b e there m.
    back_second c.args.trail.now.lits.items c.args.trail.now.levels.items kept c.args.clause.now c.args.back
    c.level_at.result c.args.at t there c.level_at.ensures m (e ∙ c.if-before-ne1.false) c.if-clause-ne2.false
