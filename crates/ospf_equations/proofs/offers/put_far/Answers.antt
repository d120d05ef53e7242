use Rattle.std.proofs.Common.{◌++◌, None, arith, sym, ap, ◌∙◌, if◌then◌else◌}
use Rattle.std.specs.List.{filter_map}
use Rattle.std.specs.Option.{option_to_list}
use Rattle.std.specs.Prelude.{option_copied}
use Rattle.net_parts.specs.OspfRoutes.{offer_over}
use Rattle.term_store.specs.Terms.{at}
use Rattle.sym_policy.specs.Held.{ospf_of}
use Rattle.sym_policy.specs.Records.{prefix_of}
use Rattle.ospf_equations.proofs.EquationSteps.{nothing_put, routes_push}
use Rattle.ospf_equations.proofs.Standing.{no_offer, offer_placed}
use Rattle.ospf_equations.proofs.offers.put_far.Goals as goal

pub returns-in-None-clause-value : goal.returns-in-None-clause-value
returns-in-None-clause-value c = λ w reads tracked real stand.
    let p = prefix_of w c.args.dst.now c.args.len in
    let tables = c.args.tables.now in
    nothing_put (filter_map (ospf_of w) c.args.made.now) (at w c.args.up) (offer_over real p c.args.a.now)
    (no_offer w tracked tables.lens.now tables.routers tables.slots.now real stand p c.args.a.now (omega arith)
    (sym c.in-None.ensures.place))

pub returns-in_ok-put_route-in-Some-clause-value : goal.returns-in_ok-put_route-in-Some-clause-value
returns-in_ok-put_route-in-Some-clause-value c = λ w reads tracked real stand.
    let tables = c.args.tables.now in
    let p = prefix_of w c.args.dst.now c.args.len in
    let far = c.in-Some.far.now in
    let made = filter_map (ospf_of w) c.args.made.now in
    ap (filter_map (ospf_of w)) c.in_ok-put_route-in-Some.ensures
    ∙ routes_push w c.args.made.now c.in_ok-offer-in-Some.offer
    ∙ ap (λ o. made ++ option_to_list o) (c.in_ok-offer-in-Some.ensures.value w reads
    ∙ ap (λ o. if at w c.args.up then o else None) (sym (offer_placed w tracked tables.lens.now tables.routers
    tables.slots.now real stand p c.args.a.now far (omega arith) (sym c.slot_for.ensures.place
    ∙ ap option_copied c.in-Some.is))))
