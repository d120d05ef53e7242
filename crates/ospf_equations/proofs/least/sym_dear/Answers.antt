use Rattle.std.proofs.Common.{arith, not, sym, ap, ◌∙◌, refl}
use Rattle.std.specs.Prelude.{option_copied}
use Rattle.sym_policy.specs.Held.{ospf_of}
use Rattle.ospf_equations.specs.Least.{is_cheaper}
use Rattle.ospf_equations.proofs.HoldingSteps.{gives_more}
use Rattle.ospf_equations.proofs.LeastSteps.{less_is}
use Rattle.ospf_equations.proofs.ReachedSteps.{holds_there, nothing_there}
use Rattle.ospf_equations.proofs.least.sym_dear.Goals as goal

pub returns-in-None-clause-value : goal.returns-in-None-clause-value
returns-in-None-clause-value c =
    gives_more c.constant_node-in-None.new.terms c.constant_node-in-None.result _ _
    (λ w r reads is tracked real stand.
    let tables = c.args.tables.now in
    is ∙ sym (ap not (nothing_there w tracked tables.lens.now tables.routers tables.slots.now real stand
    (λ slot. is_cheaper c.args.least slot.ospf) c.args.router c.args.len refl (omega arith)
    (sym c.slot_for.ensures.place ∙ ap option_copied c.in-None.is))))
    c.constant_node-in-None.ensures.value

pub returns-in_ok-less-in-Some-clause-value : goal.returns-in_ok-less-in-Some-clause-value
returns-in_ok-less-in-Some-clause-value c =
    gives_more c.negate.new.terms c.negate.result _ _
    (λ w r reads is tracked real stand.
    let tables = c.args.tables.now in
    let slot = c.in-Some.slot.now in
    is ∙ ap not (c.in_ok-less-in-Some.ensures.value w (c.negate.ensures.builds.reads w reads)
    ∙ less_is c.args.least (ospf_of w slot.ospf) (omega arith)
    ∙ holds_there w tracked tables.lens.now tables.routers tables.slots.now real stand (is_cheaper c.args.least)
    c.args.router c.args.len slot (omega arith) (sym c.slot_for.ensures.place ∙ ap option_copied c.in-Some.is)))
    c.negate.ensures.value
