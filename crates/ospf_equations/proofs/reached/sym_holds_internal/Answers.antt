use Rattle.std.proofs.Common.{arith, sym, ap, ◌∙◌, refl}
use Rattle.std.specs.Prelude.{option_copied}
use Rattle.ospf_equations.specs.Reached.{has_internal}
use Rattle.ospf_equations.proofs.HoldingSteps.{gives_more}
use Rattle.ospf_equations.proofs.ReachedSteps.{holds_there, nothing_there}
use Rattle.ospf_equations.proofs.reached.sym_holds_internal.Goals as goal

pub returns-in-None-clause-value : goal.returns-in-None-clause-value
returns-in-None-clause-value c =
    gives_more c.constant_node.new.terms c.constant_node.result _ _
    (λ w r reads is tracked real stand.
    let tables = c.args.tables.now in
    is ∙ sym (nothing_there w tracked tables.lens.now tables.routers tables.slots.now real stand
    (λ slot. has_internal slot.ospf) c.args.router c.args.len refl (omega arith)
    (sym c.slot_for.ensures.place ∙ ap option_copied c.in-None.is)))
    c.constant_node.ensures.value

pub returns-in-Some-clause-value : goal.returns-in-Some-clause-value
returns-in-Some-clause-value c =
    gives_more c.sym_internal.new.terms c.sym_internal.result _ _
    (λ w r reads is tracked real stand.
    let tables = c.args.tables.now in
    is ∙ holds_there w tracked tables.lens.now tables.routers tables.slots.now real stand has_internal c.args.router
    c.args.len c.in-Some.slot.now (omega arith) (sym c.slot_for.ensures.place ∙ ap option_copied c.in-Some.is))
    c.sym_internal.ensures.value
