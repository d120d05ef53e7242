use Rattle.std.proofs.Common.{◌<◌, ◌+◌, subst, sym, ◌∙◌}
use Rattle.std.specs.Prelude.{IfSome}
use Rattle.term_store.specs.Terms.{truth}
use Rattle.cnf_blaster.proofs.Decoding.{IsSoFar, node_below, none_yet, one_more}
use Rattle.cnf_blaster.proofs.decode.put_values.Goals as goal

pub variable_at-requires : goal.variable_at-requires
variable_at-requires c =
    node_below c.args.terms.now.nodes c.args.roots.now c.args.node_of.now c.loop-x.x c.requires.nodes c.loop-x-test.true

pub put_value-requires : goal.put_value-requires
put_value-requires c =
    subst (λ n. IfSome c.variable_at.result (λ k. k < n)) (sym (c.loop-x.auto.valuation ∙ c.requires.all))
    c.variable_at.ensures.within

pub loop-x-init : goal.loop-x-init
loop-x-init c =
    none_yet c.args.terms.now.nodes c.args.node_of.now (truth c.args.values.now) c.args.valuation.now c.requires.none

pub loop-x-preserved : goal.loop-x-preserved
loop-x-preserved c =
    let below =
    node_below c.args.terms.now.nodes c.args.roots.now c.args.node_of.now c.loop-x.x c.requires.nodes
    c.loop-x-test.true in
    let fits = subst (λ n. IfSome c.variable_at.result (λ k. k < n)) (sym (c.loop-x.auto.valuation ∙ c.requires.all))
    c.variable_at.ensures.within in
    subst (IsSoFar c.args.terms.now.nodes c.args.node_of.now (truth c.args.values.now) (c.loop-x.x + 1))
    (sym c.put_value.ensures)
    (one_more c.args.terms.now.nodes c.args.roots.now c.args.node_of.now (truth c.args.values.now) c.loop-x.x
    c.loop-x.valuation c.variable_at.result c.stands_in_order.ensures.once c.requires.nodes c.loop-x-test.true below
    c.variable_at.ensures.value fits c.loop-x.invariant)
