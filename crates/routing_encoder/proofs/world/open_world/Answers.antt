use Rattle.std.proofs.Common.{map, ◌∙◌}
use Rattle.sym_policy.specs.Held.{bgp_of, failures_of}
use Rattle.sym_policy.specs.Records.{address_of}
use Rattle.world_variables.specs.Symbols.{open_of}
use Rattle.bgp_worlds.specs.Opens.{shape_slot_of}
use Rattle.routing_worlds.specs.Worlds.{opens_with}
use Rattle.routing_encoder.specs.Slots.{shapes_over}
use Rattle.routing_encoder.proofs.WorldSteps.{shapes_are}
use Rattle.routing_encoder.proofs.world.open_world.Goals as goal

pub returns-clause-shapes : goal.returns-clause-shapes
returns-clause-shapes c = λ w reads.
    let files = c.args.net.now.files in
    let question = c.args.question.now in
    let made = c.in_ok-routing.routing in
    let failures = failures_of w made.net in
    let d = address_of w made.packet.dst in
    shapes_are w files c.args.net.now.tracked question c.args.plan.now c.args.terms.now.vars c.open_routing.new.terms made
    c.in_ok-slots.slots c.in_ok-routing.ensures.stands
    (c.in_ok-routing.ensures.value w (c.slots.ensures.builds.reads w reads)) c.in_ok-slots.ensures.long
    (c.in_ok-slots.ensures.value w reads ∙ (λ i. shapes_over (shape_slot_of files question.packets.dst failures d)
    made.frame.places (opens_with files question failures d made.frame.places
    (map (open_of w) (c.as_slice-parts.ensures i)) (map (bgp_of w) (c.as_slice-routes.ensures i)))))
