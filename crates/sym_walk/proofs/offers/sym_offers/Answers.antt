use Rattle.std.proofs.Common.{ap, arith, sym, ◌&&◌, ◌∙◌, Bool, Option}
use Rattle.std.proofs.lemmas.Result.{IfOk-weaker}
use Rattle.std.specs.Option.{option_map_or}
use Rattle.route_record.specs.declared.OspfRec.{OspfRec}
use Rattle.net_parts.specs.Sending.{same_record}
use Rattle.term_store.specs.Terms.{at}
use Rattle.sym_policy.specs.Held.{ospf_of}
use Rattle.sym_policy.specs.Records.{prefix_of}
use Rattle.sym_walk.proofs.OfferedHops.{far_offer, none_offered, offered_where}
use Rattle.sym_walk.proofs.offers.sym_offers.Goals as goal

pub returns-in_ok-same-in-Some-clause-value : goal.returns-in_ok-same-in-Some-clause-value
returns-in_ok-same-in-Some-clause-value c = λ w reads.
    let tables = c.args.tables.now in
    let p = prefix_of w c.args.dst.now c.args.len in
    let up = at w c.args.up in
    let held = ospf_of w c.args.held.now in
    let offer = c.in_ok-offer-in-Some.ensures.value w (c.sym_is_held.ensures.builds.reads w reads) in
    let over = far_offer w tables p c.args.a.now c.in-Some.far.now (omega arith) (sym c.in-Some.ensures.place) in
    c.in_ok-same-in-Some.ensures.value w reads
    ∙ offered_where up (ospf_of w c.in_ok-offer-in-Some.offer) _ held offer
    ∙ ap (λ (o : Option OspfRec). up && option_map_or (λ h. option_map_or (same_record h) o Bool.false) held Bool.false)
    over

pub returns-in-None-clause-value : goal.returns-in-None-clause-value
returns-in-None-clause-value c = IfOk-weaker c.constant_node.result _ _ (λ r read. λ w reads.
    read w reads
    ∙ none_offered w c.args.tables.now (prefix_of w c.args.dst.now c.args.len) c.args.a.now (at w c.args.up)
    (ospf_of w c.args.held.now) (omega arith) (sym c.in-None.ensures.place)) c.constant_node.ensures.value
