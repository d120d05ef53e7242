use Rattle.std.proofs.Common.{◌∙◌, ◌≤◌, ap, arith, subst, sym}
use Rattle.bgp_equations.specs.Equations.{HaveTracked}
use Rattle.routing_encoder.specs.Opened.{ReadsAs}
use Rattle.routing_encoder.specs.Shapes.{ReadAsShapes}
use Rattle.routing_encoder.proofs.RootSteps.{stands_world, world_nodes, world_slots}
use Rattle.sym_walk.specs.Whole.{whole_end}
use Rattle.term_store.specs.Reading.{Reads}
use Rattle.term_store.specs.Terms.{Store, size}
use Rattle.ask_search.proofs.world.own_world.Goals as goal

pub returns-clause-vars : goal.returns-clause-vars
returns-clause-vars c =
    let none = c.new-terms.ensures.vars in
    let all = c.in_ok-made.ensures.vars in
    ap (λ (t : Store). t.vars) c.settled.ensures.terms ∙ omega (arith, none, all)

pub returns-clause-world : goal.returns-clause-world
returns-clause-world c = record {
  slots = world_slots c.args.net.now.files c.args.net.now.tracked c.args.question.now c.args.plan
      c.open_world.new.terms c.in_ok-made.made.routing c.in_ok-made.made.slots c.settled.result.world
      c.in_ok-made.ensures.stands c.in_ok-made.ensures.long c.settled.ensures.slots c.settled.ensures.plan;
  nodes = subst (λ (t : Store). whole_end c.settled.result.world ≤ size t) (sym c.settled.ensures.terms)
      (world_nodes c.args.net.now.files c.args.net.now.tracked c.args.question.now c.args.plan
      c.open_world.new.terms c.open_world.new.terms c.in_ok-made.made.routing c.in_ok-made.made.slots
      c.settled.result.world c.in_ok-made.ensures.stands c.in_ok-made.ensures.within (omega arith)
      c.settled.ensures.packet c.settled.ensures.net c.settled.ensures.slots);
  rows = subst (HaveTracked c.args.net.now.tracked) (sym c.settled.ensures.slots) c.in_ok-made.ensures.rows;
}

pub returns-clause-stands : goal.returns-clause-stands
returns-clause-stands c = λ w reads.
    let there = subst (λ (t : Store). Reads w t) c.settled.ensures.terms reads in
    let read = subst (λ n. ReadsAs c.args.net.now.files c.args.net.now.tracked c.args.question.now c.args.plan n w
    c.in_ok-made.made.routing) c.new-terms.ensures.vars (c.in_ok-made.ensures.value w there) in
    let shapes = subst (λ n. ReadAsShapes c.args.net.now.files c.args.net.now.tracked c.args.question.now c.args.plan n w
    c.in_ok-made.made.slots) c.new-terms.ensures.vars (c.in_ok-made.ensures.shapes w there) in
    stands_world w c.args.net.now.files c.args.net.now.tracked c.args.question.now c.args.plan 0
    c.open_world.new.terms c.in_ok-made.made.routing c.in_ok-made.made.slots c.in_ok-made.ensures.stands read
    c.in_ok-made.ensures.long shapes c.settled.result.world c.settled.result.env c.settled.ensures.packet
    c.settled.ensures.net c.settled.ensures.slots c.settled.ensures.env
