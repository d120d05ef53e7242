use Rattle.std.proofs.Common.{sym, ◌∙◌}
use Rattle.std.proofs.lemmas.Bool.{and_from, and_parts}
use Rattle.term_store.specs.Terms.{at}
use Rattle.shape_worlds.specs.Worlds.{rebuilt_tables}
use Rattle.routing_worlds.specs.Worlds.{shape_world_from}
use Rattle.routing_encoder.proofs.RootSteps.{distances_for}
use Rattle.routing_encoder.proofs.RoutingSteps.{parts_of_routing, routing_by_parts, tables_shaped}
use Rattle.routing_encoder.proofs.routing.sym_routing.Goals as goal

pub returns-clause-distances : goal.returns-clause-distances
returns-clause-distances c = λ w reads holds runs.
    let r4 = c.both-2.ensures.builds.reads w reads in
    let r3 = c.both.ensures.builds.reads w r4 in
    let r2 = c.sym_igp_half.ensures.builds.reads w r3 in
    let r1 = c.sym_bgp_half.ensures.builds.reads w r2 in
    let all = and_parts (at w c.in_ok-distances.distances) (at w c.in_ok-halves.halves)
    (sym (c.in_ok-routing.ensures.value w reads) ∙ holds) in
    c.in_ok-distances.ensures.sound w r1 all.0 runs

pub returns-clause-sound : goal.returns-clause-sound
returns-clause-sound c = λ w reads from read shapes fits holds.
    let files = c.args.net.now.files in
    let tracked = c.args.net.now.tracked in
    let question = c.args.question.now in
    let plan = c.args.plan.now in
    let made = c.args.made.now.routing in
    let slots = c.args.made.now.slots in
    let t = c.args.terms.now in
    let r4 = c.both-2.ensures.builds.reads w reads in
    let r3 = c.both.ensures.builds.reads w r4 in
    let r2 = c.sym_igp_half.ensures.builds.reads w r3 in
    let r1 = c.sym_bgp_half.ensures.builds.reads w r2 in
    let all = and_parts (at w c.in_ok-distances.distances) (at w c.in_ok-halves.halves)
    (sym (c.in_ok-routing.ensures.value w reads) ∙ holds) in
    let halves = and_parts (at w c.in_ok-bgp.bgp) (at w c.in_ok-igp.igp)
    (sym (c.in_ok-halves.ensures.value w r4) ∙ all.1) in
    let needed = distances_for w files made.net (λ runs. c.in_ok-distances.ensures.sound w r1 all.0 runs) in
    let bgp = and_parts _ _ (sym (c.in_ok-bgp.ensures.value w r2 from read shapes needed) ∙ halves.0) in
    let shaped = tables_shaped w files tracked question plan from t made slots c.requires.stands read c.requires.long
    c.requires.rows shapes fits bgp.0 bgp.1 in
    let tables = rebuilt_tables tracked files (shape_world_from files tracked question plan w.variable from) in
    let igp = and_parts _ _ (sym (c.in_ok-igp.ensures.value w r3 from tables read shapes shaped) ∙ halves.1) in
    routing_by_parts w files tracked question plan from t made slots c.requires.stands read c.requires.long
    c.requires.rows shapes fits igp.0 bgp.0 bgp.1 igp.1

pub returns-clause-complete : goal.returns-clause-complete
returns-clause-complete c = λ w reads from read shapes fits routing given.
    let files = c.args.net.now.files in
    let tracked = c.args.net.now.tracked in
    let question = c.args.question.now in
    let plan = c.args.plan.now in
    let made = c.args.made.now.routing in
    let slots = c.args.made.now.slots in
    let t = c.args.terms.now in
    let r4 = c.both-2.ensures.builds.reads w reads in
    let r3 = c.both.ensures.builds.reads w r4 in
    let r2 = c.sym_igp_half.ensures.builds.reads w r3 in
    let r1 = c.sym_bgp_half.ensures.builds.reads w r2 in
    let parts = parts_of_routing w files tracked question plan from t made slots c.requires.stands read c.requires.long
    c.requires.rows shapes fits routing in
    let tables = rebuilt_tables tracked files (shape_world_from files tracked question plan w.variable from) in
    let bgp = c.in_ok-bgp.ensures.value w r2 from read shapes (distances_for w files made.net given)
    ∙ and_from _ _ parts.announced parts.decided in
    let igp = c.in_ok-igp.ensures.value w r3 from tables read shapes parts.shaped
    ∙ and_from _ _ parts.asked parts.wanted in
    let halves = c.in_ok-halves.ensures.value w r4
    ∙ and_from (at w c.in_ok-bgp.bgp) (at w c.in_ok-igp.igp) bgp igp in
    c.in_ok-routing.ensures.value w reads
    ∙ and_from (at w c.in_ok-distances.distances) (at w c.in_ok-halves.halves)
    (c.in_ok-distances.ensures.complete w r1 given) halves
