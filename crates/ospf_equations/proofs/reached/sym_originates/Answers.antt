use Rattle.std.proofs.Common.{◌≡◌, Some, sym, ap, ◌∙◌}
use Rattle.std.specs.Prelude.{option_copied, slice_get}
use Rattle.sym_policy.specs.Held.{failures_of}
use Rattle.sym_policy.specs.Records.{prefix_of}
use Rattle.ospf_equations.proofs.HoldingSteps.{gives_more}
use Rattle.ospf_equations.proofs.ReachedSteps.{no_process, no_router, some_process}
use Rattle.ospf_equations.proofs.reached.sym_originates.Goals as goal

pub returns-in-None-clause-value : goal.returns-in-None-clause-value
returns-in-None-clause-value c =
    gives_more c.constant_node.new.terms c.constant_node.result _ _
    (λ w r reads is held stands. is ∙ sym (no_router c.args.place.now.net.now.files
    (failures_of w c.args.place.now.sym.now) (prefix_of w c.args.place.now.dst.now c.args.place.now.len)
    c.args.place.now.router held (ap (λ xs. slice_get xs c.args.place.now.router) (sym c.routers.ensures.all)
    ∙ sym c.file_of.ensures ∙ ap option_copied c.in-None.is)))
    c.constant_node.ensures.value

pub returns-in-None-ospf-clause-value : goal.returns-in-None-ospf-clause-value
returns-in-None-ospf-clause-value c =
    gives_more c.constant_node-in-None-ospf.new.terms c.constant_node-in-None-ospf.result _ _
    (λ w r reads is held stands. is ∙ sym (no_process c.args.place.now.net.now.files
    (failures_of w c.args.place.now.sym.now) (prefix_of w c.args.place.now.dst.now c.args.place.now.len)
    c.args.place.now.router held c.in-Some.file.now (ap (λ xs. slice_get xs c.args.place.now.router)
    (sym c.routers.ensures.all) ∙ sym c.file_of.ensures ∙ ap option_copied c.in-Some.is) c.in-None-ospf.is))
    c.constant_node-in-None-ospf.ensures.value

pub returns-in_ok-made-in-Some-ospf-clause-value : goal.returns-in_ok-made-in-Some-ospf-clause-value
returns-in_ok-made-in-Some-ospf-clause-value c = λ w reads held stands.
    let place = c.args.place.now in
    let file = c.in-Some.file.now in
    let found : slice_get place.net.now.files place.router ≡ Some file =
    ap (λ xs. slice_get xs place.router) (sym c.routers.ensures.all) ∙ sym c.file_of.ensures
    ∙ ap option_copied c.in-Some.is in
    c.in_ok-made-in-Some-ospf.ensures.value w reads file c.in-Some-ospf.field-0 held found c.in-Some-ospf.is stands
    ∙ sym (some_process place.net.now.files (failures_of w place.sym.now) (prefix_of w place.dst.now place.len)
    place.router held file c.in-Some-ospf.field-0 found c.in-Some-ospf.is)
