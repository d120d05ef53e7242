use Rattle.std.proofs.Common.{◌*◌, arith, length, ap, ◌∙◌}
use Rattle.route_record.specs.declared.TheConstants.{LENGTHS}
use Rattle.routing_encoder.proofs.OpeningSteps.{places_are}
use Rattle.routing_encoder.proofs.WantedSteps.{held_as_read, tables_stand}
use Rattle.routing_encoder.proofs.following.sym_dearer_at.Goals as goal

pub returns-clause-value : goal.returns-clause-value
returns-clause-value c = λ w reads from real read shapes has all.
    let world = c.args.world.now in
    let files = world.net.now.files in
    let tracked = world.net.now.tracked in
    let question = world.question.now in
    let plan = world.plan.now in
    let made = world.made.now.routing in
    let tables = world.tables.now in
    let stands = c.requires.stands in
    let short = c.requires.short in
    let stand = tables_stand w files tracked question plan from real has world.made.now.slots tables shapes
    (c.requires.long ∙ ap length (places_are files tracked plan made.frame stands.frame))
    (c.requires.lens ∙ stands.frame.lens) c.requires.routers c.requires.slots in
    c.in_ok-dearer.ensures.value w reads real stand (stand.long ∙ ap (λ n. LENGTHS * n) c.requires.routers)
    (held_as_read w files tracked question plan from c.args.terms.now made real c.args.len (omega (arith, short)) stands
    read has all)
