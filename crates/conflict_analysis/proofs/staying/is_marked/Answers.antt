use Rattle.std.proofs.Common.{length}
use Rattle.resolution_check.proofs.Values.{below_at}
use Rattle.conflict_analysis.specs.Lessons.{marked}
use Rattle.conflict_analysis.proofs.Marked.{has_at, mark_of}
use Rattle.conflict_analysis.proofs.staying.is_marked.Goals as goal

pub bounds-marks-literal_at : goal.bounds-marks-literal_at
bounds-marks-literal_at c =
    let ss = c.args.trail.now.lits.items in
    below_at (length c.args.marks.now) ss c.literal_at.result c.requires.below
    (has_at ss c.args.at c.literal_at.result c.literal_at.ensures)

pub returns : goal.returns
returns c = mark_of c.args.trail.now.lits.items c.args.at c.literal_at.result (marked c.args.marks.now)
    c.literal_at.ensures
