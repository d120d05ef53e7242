use Rattle.std.proofs.Common.{length, sym, ◌∙◌}
use Rattle.clause_arena.specs.Held.{lits_of}
use Rattle.conflict_analysis.specs.Lessons.{marked}
use Rattle.conflict_analysis.proofs.Marked.{var_within, others_more, others_missing}
use Rattle.std.proofs.Common.{refl}
use Rattle.conflict_analysis.proofs.marks.are_others_marked.Goals as goal

pub is_covered-requires : goal.is_covered-requires
is_covered-requires c =
    var_within (length c.args.marks.now) (length c.args.marks.now) (lits_of c.args.arena.now c.args.clause.0)
    c.loop-at.at c.lit-lit.result c.requires.below c.lit-lit.ensures.listed refl

pub loop-at-preserved : goal.loop-at-preserved
loop-at-preserved c =
    others_more (marked c.args.marks.now) c.args.var (lits_of c.args.arena.now c.args.clause.0) c.loop-at.at
    c.lit-lit.result c.lit-lit.ensures.listed c.loop-at.invariant (sym c.is_covered.ensures ∙ c.if-not-is_covered.false)

pub returns-then-not-is_covered : goal.returns-then-not-is_covered
returns-then-not-is_covered c =
    sym (others_missing (marked c.args.marks.now) c.args.var (lits_of c.args.arena.now c.args.clause.0) c.loop-at.at
    c.lit-lit.result c.lit-lit.ensures.listed (sym c.is_covered.ensures ∙ c.if-not-is_covered.true))
