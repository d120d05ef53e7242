use Rattle.std.proofs.Common.{length}
use Rattle.proto_bgp.specs.Places.{ArePlaces}
use Rattle.net_parts.specs.Decisions.{to_cost, after_cost}
use Rattle.proto_bgp.proofs.StepLaws.{early_law, late_law, places_stay}
use Rattle.proto_bgp.proofs.decision.survivors.Goals as goal

pub returns-then-not-is_compared-clause-survive : goal.returns-then-not-is_compared-clause-survive
returns-then-not-is_compared-clause-survive c =
    early_law c.args.always_compare c.args.compare_id c.args.candidates.now c.in_ok-all.all.items
    c.in_ok-left.left.items
    c.in_ok-all.ensures.every c.in_ok-left.ensures (cc)

pub returns-then-not-is_compared-clause-places : goal.returns-then-not-is_compared-clause-places
returns-then-not-is_compared-clause-places c =
    rw c.in_ok-left.ensures (places_stay c.args.always_compare c.args.candidates.now (length c.args.candidates.now)
    c.in_ok-all.all.items to_cost c.in_ok-all.ensures.are)

pub returns-clause-survive : goal.returns-clause-survive
returns-clause-survive c =
    late_law c.args.always_compare c.args.compare_id c.args.candidates.now c.in_ok-all.all.items c.in_ok-left.left.items
    c.in_ok-held.held.items c.in_ok-all.ensures.every c.in_ok-left.ensures (cc) c.in_ok-held.ensures

pub returns-clause-places : goal.returns-clause-places
returns-clause-places c =
    let left : ArePlaces (length c.args.candidates.now) c.in_ok-left.left.items =
    rw c.in_ok-left.ensures (places_stay c.args.always_compare c.args.candidates.now (length c.args.candidates.now)
    c.in_ok-all.all.items to_cost c.in_ok-all.ensures.are) in
    rw c.in_ok-held.ensures (places_stay c.args.always_compare c.args.candidates.now (length c.args.candidates.now)
    c.in_ok-left.left.items after_cost left)
