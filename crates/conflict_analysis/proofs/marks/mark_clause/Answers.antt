use Rattle.std.proofs.Common.{length}
use Rattle.clause_arena.specs.Held.{lits_of}
use Rattle.conflict_analysis.specs.Lessons.{marked}
use Rattle.conflict_analysis.proofs.Marked.{var_within, marked_more}
use Rattle.conflict_analysis.proofs.marks.mark_clause.Goals as goal

pub set_mark-requires : goal.set_mark-requires
set_mark-requires c =
    var_within (length c.args.marks.now) (length c.loop-at.marks) (lits_of c.args.arena.now c.args.clause.0)
    c.loop-at.at c.lit-lit.result c.requires.below c.lit-lit.ensures.listed c.loop-at.auto.marks

pub loop-at-preserved : goal.loop-at-preserved
loop-at-preserved c =
    marked_more (lits_of c.args.arena.now c.args.clause.0) c.loop-at.at c.lit-lit.result (marked c.args.marks.now)
    (marked c.loop-at.marks) (marked c.set_mark.new.marks) c.lit-lit.ensures.listed c.loop-at.invariant
    c.set_mark.ensures
