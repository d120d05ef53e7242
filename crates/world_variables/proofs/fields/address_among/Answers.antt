use Rattle.std.proofs.Common.{◌≡◌, ◌+◌, ap, arith, ◌∙◌}
use Rattle.slot_places.specs.Values.{address_numbers}
use Rattle.term_arith.specs.Bits.{number}
use Rattle.world_variables.proofs.FieldSteps.{address_first, later}
use Rattle.world_variables.proofs.fields.address_among.Goals as goal

pub returns-clause-value : goal.returns-clause-value
returns-clause-value c = λ w reads.
    let one : c.loop-i.i + 1 ≡ 1 = omega arith in
    c.loop-i.invariant.value w reads
    ∙ ap (λ k. later (address_numbers c.args.addresses.now) k (number w c.args.place.now.nodes.items)) one
    ∙ address_first c.args.addresses.now (number w c.args.place.now.nodes.items)
