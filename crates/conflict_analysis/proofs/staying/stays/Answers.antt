use Rattle.std.proofs.Common.{Some, not, ap, subst}
use Rattle.std.specs.Prelude.{◌≡◌, ℕ, slice_get}
use Rattle.conflict_analysis.proofs.Tops.{kept_never, kept_lower, kept_last}
use Rattle.conflict_analysis.specs.Lessons.{marked}
use Rattle.conflict_analysis.proofs.staying.stays.Goals as goal

pub returns-then-level-eq0 : goal.returns-then-level-eq0
returns-then-level-eq0 c =
    kept_never c.args.arena.now c.args.trail.now.lits.items c.args.trail.now.levels.items
    c.args.trail.now.reasons.items (marked c.args.marks.now) c.args.top c.args.at
    (subst (λ (n : ℕ). slice_get c.args.trail.now.levels.items c.args.at ≡ Some n) c.if-level-eq0.true
    c.level_at-level.ensures)

pub returns-then-level-top : goal.returns-then-level-top
returns-then-level-top c =
    kept_lower c.args.arena.now c.args.trail.now.lits.items c.args.trail.now.levels.items
    c.args.trail.now.reasons.items (marked c.args.marks.now) c.args.top c.args.at c.level_at-level.result
    (not c.is_implied_at.result) c.level_at-level.ensures c.if-level-eq0.false c.if-level-top.true
    (λ l r here by. ap not (c.is_implied_at.ensures l r here by))

pub returns : goal.returns
returns c =
    kept_last c.args.arena.now c.args.trail.now.lits.items c.args.trail.now.levels.items
    c.args.trail.now.reasons.items (marked c.args.marks.now) c.args.top c.args.at c.level_at-level.result
    c.is_last.result c.level_at-level.ensures c.if-level-eq0.false c.if-level-top.false c.is_last.ensures.last
    c.is_last.ensures.another
