use Rattle.sym_policy.specs.Held.{failures_of}
use Rattle.sym_policy.specs.Records.{address_of}
use Rattle.std.proofs.Common.{◌∙◌}
use Rattle.term_store.specs.Terms.{at}
use Rattle.routing_encoder.proofs.WantedSteps.{closed_bit}
use Rattle.routing_encoder.proofs.wanted.closed_part.Goals as goal

pub returns-clause-value : goal.returns-clause-value
returns-clause-value c = λ w reads held u bgp stands none shape.
    let towards = c.args.towards.now in
    let r1 = c.sym_dynamic.ensures.builds.reads w reads in
    let ospf = c.in_ok-ospf.ensures.value w (c.constant_node.ensures.builds.reads w r1) in
    let bit = c.in_ok-dynamic.ensures.value w reads held stands
    ∙ closed_bit towards.net.now.tracked towards.net.now.files (failures_of w towards.sym.now)
    (address_of w towards.dst.now) c.args.p held bgp (at w c.in_ok-own.own) none shape (c.in_ok-own.ensures.value w r1) in
    λ i. record { ospf = ospf i; dynamic = bit i }
