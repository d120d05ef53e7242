use Rattle.term_store.specs.Terms.{truth}
use Rattle.bgp_decoding.specs.Decoded.{Given}
use Rattle.bgp_decoding.proofs.World.{world_made}
use Rattle.bgp_decoding.proofs.decoding.decode_routing.Goals as goal

pub returns-clause-world : goal.returns-clause-world
returns-clause-world c =
    let g : Given = record {
      files = c.args.net.now.files;
      tracked = c.args.net.now.tracked;
      question = c.args.question.now;
      plan = c.args.plan.now;
      values = truth c.args.values.now;
    } in
    world_made g c.in_ok-made.made c.packet_at-packet.result c.in_ok-failures.failures c.in_ok-made.ensures
    c.packet_at-packet.ensures c.in_ok-failures.ensures

pub returns-clause-environment : goal.returns-clause-environment
returns-clause-environment c = c.in_ok-made.ensures.environment
