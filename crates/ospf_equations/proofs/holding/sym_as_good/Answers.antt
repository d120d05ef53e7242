use Rattle.std.proofs.Common.{◌∙◌}
use Rattle.std.specs.List.{filter_map, list_any}
use Rattle.net_parts.specs.OspfRoutes.{is_as_good}
use Rattle.term_store.specs.Terms.{at}
use Rattle.sym_policy.specs.Held.{ospf_at, ospf_of}
use Rattle.ospf_equations.proofs.HoldingSteps.{held_is}
use Rattle.ospf_equations.proofs.holding.sym_as_good.Goals as goal

pub returns-clause-value : goal.returns-clause-value
returns-clause-value c = λ w reads.
    c.in_ok-good.ensures.value w reads
    ∙ held_is (at w c.args.held.now.valid) (at w c.in_ok-any.any)
    (λ h. list_any (λ o. is_as_good o h) (filter_map (ospf_of w) c.args.own.now)) (ospf_at w c.args.held.now)
    (c.in_ok-any.ensures.value w (c.both.ensures.builds.reads w reads))
