use Rattle.std.proofs.Common.{◌≡◌, ap, arith, ◌∙◌}
use Rattle.term_arith.specs.Bits.{number}
use Rattle.world_variables.proofs.FieldSteps.{later, later_first}
use Rattle.world_variables.proofs.fields.value_among.Goals as goal

pub returns-clause-value : goal.returns-clause-value
returns-clause-value c = λ w reads.
    let zero : c.loop-i.i ≡ 0 = omega arith in
    c.loop-i.invariant.value w reads
    ∙ ap (λ k. later c.args.values.now k (number w c.args.place.now.nodes.items)) zero
    ∙ later_first c.args.values.now (number w c.args.place.now.nodes.items)
