use Rattle.std.proofs.Common.{◌+◌, ◌≤◌, arith, length, subst, sym}
use Rattle.route_record.specs.declared.Environment.{Environment}
use Rattle.route_record.specs.declared.World.{World}
use Rattle.question_lang.specs.Breaking.{IsBreaking}
use Rattle.term_store.specs.Terms.{truth}
use Rattle.routing_worlds.specs.Worlds.{world_from}
use Rattle.net_encoder.proofs.decoding.decode.Goals as goal

pub decode_routing-requires-clause-width : goal.decode_routing-requires-clause-width
decode_routing-requires-clause-width c =
    let vars = c.requires.encoding.vars in
    let long = c.requires.width in
    omega (arith, vars, long)

pub decode_routing-requires-clause-routing : goal.decode_routing-requires-clause-routing
decode_routing-requires-clause-routing c =
    (c.requires.encoding.sound c.requires.plan c.args.values.now c.requires.root).0

pub broken_routing-requires : goal.broken_routing-requires
broken_routing-requires c =
    let found = (c.requires.encoding.sound c.requires.plan c.args.values.now c.requires.root).1 in
    let files = c.args.net.now.files in
    let tracked = c.args.net.now.tracked in
    let question = c.args.question.now in
    let plan = c.args.encoding.now.world.plan in
    let v = truth c.args.values.now in
    let made = c.in_ok-decoded.ensures in
    record {
      breaking = (
        found.0,
        subst (λ (world : World). IsBreaking files question world c.in_ok-decoded.decoded.environment found.0)
            (sym made.world)
            (subst (λ (e : Environment). IsBreaking files question (world_from files tracked question plan v 0) e found.0)
            (sym made.environment) found.1.breaking),
      );
    }
