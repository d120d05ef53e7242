use Rattle.std.proofs.Common.{Some, ap, ◌∙◌, length}
use Rattle.clause_arena.specs.Held.{lits_of}
use Rattle.conflict_analysis.proofs.Below.{reason_below}
use Rattle.conflict_analysis.proofs.staying.is_implied_at.Goals as goal

pub are_others_marked-requires-clause-held : goal.are_others_marked-requires-clause-held
are_others_marked-requires-clause-held c =
    let r = c.requires.trail.forced c.args.at c.literal_at.result c.in-Some.reason c.literal_at.ensures
    (c.reason_at.ensures ∙ ap Some c.in-Some.is) in
    r.held

pub are_others_marked-requires-clause-below : goal.are_others_marked-requires-clause-below
are_others_marked-requires-clause-below c =
    let ss = c.args.trail.now.lits.items in
    let r = c.requires.trail.forced c.args.at c.literal_at.result c.in-Some.reason c.literal_at.ensures
    (c.reason_at.ensures ∙ ap Some c.in-Some.is) in
    reason_below (length c.args.marks.now) ss c.args.at c.literal_at.result
    (lits_of c.args.arena.now c.in-Some.reason.0) c.requires.trail.below c.literal_at.ensures r.others
