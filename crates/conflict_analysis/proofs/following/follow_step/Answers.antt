use Rattle.std.proofs.Common.{Some, inl, inr, ◌∙◌, ap, length}
use Rattle.clause_arena.specs.Held.{lits_of, number_of}
use Rattle.conflict_analysis.specs.Lessons.{marked}
use Rattle.resolution_check.proofs.Values.{below_at}
use Rattle.conflict_analysis.proofs.Below.{reason_below}
use Rattle.conflict_analysis.proofs.Marked.{has_at}
use Rattle.conflict_analysis.proofs.Points.{way_past, way_kept, way_forced}
use Rattle.conflict_analysis.proofs.following.follow_step.Goals as goal
use Rattle.conflict_analysis.proofs.following.follow_step.Goals.{in_default-via-in-Some+else-not-stays}
use Rattle.conflict_analysis.proofs.following.follow_step.Goals.{in_default-via-in_default}

pub bounds-marks-lit : goal.bounds-marks-lit
bounds-marks-lit c =
    let ss = c.args.trail.now.lits.items in
    below_at (length c.args.marks.now) ss c.literal_at-lit.result c.requires.trail.below
    (has_at ss c.args.at c.literal_at-lit.result c.literal_at-lit.ensures)

pub returns-then-not-marks-lit-clause-way : goal.returns-then-not-marks-lit-clause-way
returns-then-not-marks-lit-clause-way c = λ w.
    way_past c.args.arena.now c.args.trail.now.lits.items c.args.trail.now.levels.items c.args.top
    c.requires.trail.level_count c.requires.trail.rising c.requires.trail.fresh c.args.at c.literal_at-lit.result
    c.literal_at-lit.ensures (marked c.args.marks.now) (marked c.args.marks.now) c.args.clause.now.items
    c.args.chain.now.items w c.if-not-marks-lit.true

pub follow_reason-requires-clause-held : goal.follow_reason-requires-clause-held
follow_reason-requires-clause-held c =
    let ss = c.args.trail.now.lits.items in
    let t = c.literal_at-lit.result in
    let r = c.requires.trail.forced c.args.at t c.in-Some.reason c.literal_at-lit.ensures
    (c.reason_at.ensures ∙ ap Some c.in-Some.is) in
    r.held

pub follow_reason-requires-clause-below : goal.follow_reason-requires-clause-below
follow_reason-requires-clause-below c =
    let ss = c.args.trail.now.lits.items in
    let t = c.literal_at-lit.result in
    let r = c.requires.trail.forced c.args.at t c.in-Some.reason c.literal_at-lit.ensures
    (c.reason_at.ensures ∙ ap Some c.in-Some.is) in
    reason_below (length c.args.marks.now) ss c.args.at t (lits_of c.args.arena.now c.in-Some.reason.0)
    c.requires.trail.below c.literal_at-lit.ensures r.others

pub returns-in-Some-clause-way : goal.returns-in-Some-clause-way
returns-in-Some-clause-way c = λ w.
    let t = c.literal_at-lit.result in
    let r = c.requires.trail.forced c.args.at t c.in-Some.reason c.literal_at-lit.ensures
    (c.reason_at.ensures ∙ ap Some c.in-Some.is) in
    way_forced c.args.arena.now c.args.trail.now.lits.items c.args.trail.now.levels.items c.args.top
    c.requires.trail.level_count c.requires.trail.rising c.requires.trail.fresh c.args.at t c.literal_at-lit.ensures
    (marked c.args.marks.now) (marked c.follow_reason.new.marks) c.args.clause.now.items c.args.chain.now.items w
    c.if-not-marks-lit.false c.args.trail.now.reasons.items c.stays-stays.result c.stays-stays.ensures
    c.if-not-stays.true (number_of c.args.arena.now c.in-Some.reason) (lits_of c.args.arena.now c.in-Some.reason.0)
    c.follow_reason.ensures.numbered r.inside r.others c.follow_reason.new.chain.items c.follow_reason.ensures.chain
    c.follow_reason.ensures.marks

pub returns-in_default-clause-way : goal.returns-in_default-clause-way
returns-in_default-clause-way c = λ w.
    way_kept c.args.arena.now c.args.trail.now.lits.items c.args.trail.now.levels.items c.args.top
    c.requires.trail.level_count c.requires.trail.rising c.requires.trail.fresh c.args.at c.literal_at-lit.result
    c.literal_at-lit.ensures (marked c.args.marks.now) (marked c.keep.new.marks) c.args.clause.now.items
    c.args.chain.now.items w c.if-not-marks-lit.false c.args.trail.now.reasons.items c.stays-stays.result
    c.stays-stays.ensures
    (elim c.in_default.branch [
      | in_default-via-in-Some+else-not-stays u ↦ inl u.if-not-stays.false
      | in_default-via-in_default u ↦ inr (c.requires.trail.opens c.args.at
          (c.reason_at.ensures ∙ ap Some u.in_default.is))
    ])
    c.keep.new.clause.items c.keep.ensures.clause c.keep.ensures.marks
