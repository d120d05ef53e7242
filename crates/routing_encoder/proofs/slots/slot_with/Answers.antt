use Rattle.std.proofs.Common.{ap, sym, ◌∙◌}
use Rattle.std.specs.Option.{option_copied}
use Rattle.sym_policy.specs.Held.{bgp_of, failures_of}
use Rattle.sym_policy.specs.Records.{address_of}
use Rattle.bgp_worlds.specs.Opens.{open_shape}
use Rattle.routing_worlds.specs.Worlds.{open_with}
use Rattle.world_variables.specs.Symbols.{open_of}
use Rattle.routing_encoder.proofs.slots.slot_with.Goals as goal

pub returns-in_ok-made-in-None-clause-value : goal.returns-in_ok-made-in-None-clause-value
returns-in_ok-made-in-None-clause-value c = λ w reads.
    let towards = c.args.towards.now in
    let files = towards.net.now.files in
    let failures = failures_of w towards.sym.now in
    let d = address_of w towards.dst.now in
    let p = c.args.p in
    let u = open_of w c.args.part.now in
    c.in_ok-made-in-None.ensures.value w reads u
    ∙ ap (λ room. open_shape files failures d p.router p.len
    (open_with files failures d (option_copied room) p u (bgp_of w c.args.route.now))) (sym c.in-None.is)
