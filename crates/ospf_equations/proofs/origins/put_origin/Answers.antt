use Rattle.std.proofs.Common.{◌++◌, Some, None, if◌then◌else◌, ap, ◌∙◌}
use Rattle.std.specs.List.{filter_map}
use Rattle.std.specs.Option.{option_to_list}
use Rattle.std.proofs.lemmas.Bool.{eq-eqb}
use Rattle.mw_text.specs.declared.address.Prefix.{Prefix}
use Rattle.mw_text.specs.Address.{same_prefix}
use Rattle.term_store.specs.Terms.{at}
use Rattle.sym_policy.specs.Held.{failures_of, internal_route, ospf_of}
use Rattle.sym_policy.specs.Records.{prefix_of}
use Rattle.ospf_equations.proofs.EquationSteps.{origin_put, routes_push}
use Rattle.ospf_equations.proofs.origins.put_origin.Goals as goal

pub returns-clause-value : goal.returns-clause-value
returns-clause-value c = λ w reads.
    let place = c.args.place.now in
    let r2 = c.origin.ensures.builds.reads w reads in
    let r1 = c.both.ensures.builds.reads w r2 in
    let r0 = c.sym_up.ensures.builds.reads w r1 in
    let p = prefix_of w place.dst.now place.len in
    let here = c.in_ok-here.ensures.value w r0
    ∙ ap (λ (q : Prefix). same_prefix q p) c.advertisement.ensures in
    ap (filter_map (ospf_of w)) c.in_ok-put_route.ensures
    ∙ routes_push w c.args.made.now c.in_ok-next.next
    ∙ ap (λ o. filter_map (ospf_of w) c.args.made.now ++ option_to_list o)
    (c.in_ok-next.ensures.value w reads
    ∙ ap (λ b. if b then Some (internal_route c.args.x.now.cost) else None) (c.in_ok-valid.ensures.value w r2)
    ∙ origin_put place.net.now.files (failures_of w place.sym.now) place.router p c.args.x.now
    (at w c.in_ok-here.here) (at w c.in_ok-up.up)
    (eq-eqb c.args.x.now.at.id.router place.router c.if-x-place.false) here (c.in_ok-up.ensures.value w r1))
