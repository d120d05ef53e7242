use Rattle.std.proofs.Common.{ap, ◌∙◌}
use Rattle.world_variables.specs.Slots.{has_dynamic}
use Rattle.ospf_equations.proofs.dynamic.sym_dynamic.Goals as goal

pub returns-clause-value : goal.returns-clause-value
returns-clause-value c = λ w reads held stands.
    let before = c.bit_of.ensures.builds.reads w reads in
    c.in_ok-bit.ensures.value w reads (c.in_ok-entry.ensures.numbered w before)
    ∙ ap has_dynamic (c.in_ok-entry.ensures.stands w before held stands)
