use Rattle.std.proofs.Common.{ℕ, ◌-◌, ◌∙◌, arith, length, subst, sym}
use Rattle.conflict_analysis.specs.Steps.{NoneMarked}
use Rattle.conflict_analysis.proofs.Tops.{none_more, none_yet, top_found, top_none}
use Rattle.conflict_analysis.specs.Lessons.{marked}
use Rattle.conflict_analysis.proofs.staying.top_level.Goals as goal

pub loop-at-init : goal.loop-at-init
loop-at-init c =
    subst (λ (n : ℕ). NoneMarked c.args.trail.now.lits.items c.args.trail.now.levels.items (marked c.args.marks.now) 0
    n (length c.args.trail.now.lits.items)) (sym (c.len-at.ensures ∙ c.args.trail.now.lits.ok.0))
    (none_yet c.args.trail.now.lits.items c.args.trail.now.levels.items (marked c.args.marks.now) 0
    (length c.args.trail.now.lits.items))

pub loop-at-preserved : goal.loop-at-preserved
loop-at-preserved c =
    none_more c.args.trail.now.lits.items c.args.trail.now.levels.items (marked c.args.marks.now) 0
    (c.loop-at.at - 1) c.loop-at.at (length c.args.trail.now.lits.items) (omega (arith, c.loop-at-test.true))
    c.loop-at.invariant (λ l h. c.is_marked.ensures l h ∙ c.if-is_marked.false)

pub returns-then-is_marked : goal.returns-then-is_marked
returns-then-is_marked c =
    top_found c.args.trail.now.lits.items c.args.trail.now.levels.items (marked c.args.marks.now) (c.loop-at.at - 1)
    c.loop-at.at c.level_at.result c.requires.rising c.requires.levels (omega (arith, c.loop-at-test.true))
    (omega (arith, c.loop-at-test.true, c.loop-at.auto.at, c.len-at.ensures)) c.level_at.ensures c.loop-at.invariant
    (λ l h. c.is_marked.ensures l h ∙ c.if-is_marked.true)

pub returns : goal.returns
returns c =
    top_none c.args.trail.now.lits.items c.args.trail.now.levels.items (marked c.args.marks.now) c.loop-at.at
    (omega (arith, c.loop-at-test.false)) c.loop-at.invariant
