use Rattle.std.proofs.Common.{◌∙◌}
use Rattle.std.proofs.lemmas.List.{length-map}
use Rattle.term_store.specs.Terms.{at}
use Rattle.sym_policy.specs.Held.{bgp_at}
use Rattle.bgp_variables.proofs.AnnouncedSteps.{marks_are}
use Rattle.bgp_variables.proofs.announcements.sym_path_marks.Goals as goal

pub returns-clause-value : goal.returns-clause-value
returns-clause-value c = λ w reads.
    let r1 = c.both.ensures.builds.reads w reads in
    let r0 = c.sym_has_room.ensures.builds.reads w r1 in
    c.in_ok-all.ensures.value w reads
    ∙ marks_are c.args.tracked.now (bgp_at w c.args.s.now).path _ _ _
    (length-map c.args.s.now.numbers.nodes.items (at w) ∙ c.requires.rows) (c.in_ok-marks.ensures.fit w r0)
    (c.in_ok-marks.ensures.count w r0) (c.in_ok-room.ensures.value w r1)
