use Rattle.std.proofs.Common.{◌||◌, false, not, sym, ap, ap₂, ◌∙◌}
use Rattle.std.specs.Option.{option_map_or}
use Rattle.std.proofs.Math.Bool.{or-false}
use Rattle.term_store.specs.Terms.{at}
use Rattle.ospf_equations.specs.Levels.{of_length}
use Rattle.ospf_equations.specs.Reached.{holds_internal}
use Rattle.ospf_equations.proofs.HoldingSteps.{gives_more}
use Rattle.ospf_equations.proofs.reached.sym_supported.Goals as goal

pub returns-in-None-clause-value : goal.returns-in-None-clause-value
returns-in-None-clause-value c =
    gives_more c.negate.new.terms c.negate.result _ _
    (λ w r reads is tracked real stand.
    let held = holds_internal real (of_length c.args.len) c.args.router in
    is
    ∙ ap not (c.in_ok-held.ensures.value w (c.negate.ensures.builds.reads w reads) tracked real stand)
    ∙ sym (or-false (not held))
    ∙ ap (λ o. not held || option_map_or (at w) o false) (sym c.in-None.is ∙ c.node_of.ensures.value))
    c.negate.ensures.value

pub returns-in-Some-clause-value : goal.returns-in-Some-clause-value
returns-in-Some-clause-value c =
    gives_more c.implies.new.terms c.implies.result _ _
    (λ w r reads is tracked real stand.
    is
    ∙ ap₂ (λ a o. not a || option_map_or (at w) o false)
    (c.in_ok-held.ensures.value w (c.implies.ensures.builds.reads w reads) tracked real stand)
    (sym c.in-Some.is ∙ c.node_of.ensures.value))
    c.implies.ensures.value
