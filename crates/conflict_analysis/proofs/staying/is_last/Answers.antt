use Rattle.std.proofs.Common.{◌-◌, ◌∙◌, arith}
use Rattle.conflict_analysis.proofs.Tops.{none_more, none_below, none_yet, none_all, found_marked}
use Rattle.conflict_analysis.specs.Lessons.{marked}
use Rattle.conflict_analysis.proofs.staying.is_last.Goals as goal

pub loop-earlier-init : goal.loop-earlier-init
loop-earlier-init c =
    none_yet c.args.trail.now.lits.items c.args.trail.now.levels.items (marked c.args.marks.now) c.args.top c.args.at

pub loop-earlier-preserved : goal.loop-earlier-preserved
loop-earlier-preserved c =
    none_more c.args.trail.now.lits.items c.args.trail.now.levels.items (marked c.args.marks.now) c.args.top
    (c.loop-earlier.earlier - 1) c.loop-earlier.earlier c.args.at (omega (arith, c.loop-earlier-test.true))
    c.loop-earlier.invariant (λ l h. c.is_marked.ensures l h ∙ c.if-is_marked.false)

pub returns-then-level_at-top-clause-last : goal.returns-then-level_at-top-clause-last
returns-then-level_at-top-clause-last c = λ t.
    none_below c.args.trail.now.lits.items c.args.trail.now.levels.items (marked c.args.marks.now) c.args.top
    (c.loop-earlier.earlier - 1) c.loop-earlier.earlier c.args.at c.level_at.result c.requires.rising
    (omega (arith, c.loop-earlier-test.true)) c.level_at.ensures c.if-level_at-top.true c.loop-earlier.invariant

pub returns-then-is_marked-clause-another : goal.returns-then-is_marked-clause-another
returns-then-is_marked-clause-another c = λ f.
    found_marked c.args.trail.now.lits.items c.args.trail.now.levels.items (marked c.args.marks.now) c.args.top
    (c.loop-earlier.earlier - 1) c.args.at c.level_at.result
    (omega (arith, c.loop-earlier-test.true, c.loop-earlier.auto.earlier, c.requires.at))
    (omega (arith, c.loop-earlier-test.true, c.loop-earlier.auto.earlier)) c.level_at.ensures c.if-level_at-top.false
    (λ l h. c.is_marked.ensures l h ∙ c.if-is_marked.true)

pub returns-clause-last : goal.returns-clause-last
returns-clause-last c = λ t.
    none_all c.args.trail.now.lits.items c.args.trail.now.levels.items (marked c.args.marks.now) c.args.top
    c.loop-earlier.earlier c.args.at (omega (arith, c.loop-earlier-test.false)) c.loop-earlier.invariant
