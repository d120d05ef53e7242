use Rattle.std.proofs.Common.{Bool, List, [], cond, Some, None, refl, sym, subst}
use Rattle.std.specs.Option.{option_map_or}
use Rattle.route_record.specs.declared.BgpRec.{BgpRec}
use Rattle.question_lang.specs.declared.walk.Hop.{Hop}
use Rattle.sym_policy.specs.Held.{failures_of}
use Rattle.sym_policy.specs.Records.{address_of}
use Rattle.sym_forwarding.specs.Aims.{sought_by}
use Rattle.sym_policy.specs.Packets.{packet_of}
use Rattle.sym_policy.specs.Seen.{route_towards}
use Rattle.sym_forwarding.specs.Symbolic.{forwarding_of}
use Rattle.sym_forwarding.specs.Towards.{hops_towards}
use Rattle.sym_forwarding.specs.Twins.{IsTwin}
use Rattle.sym_forwarding.proofs.LeastWalks.{held_hops}
use Rattle.sym_forwarding.proofs.Twins.{chosen_where}
use Rattle.term_store.specs.Terms.{at}
use Rattle.sym_forwarding.proofs.towards.sym_bgp_hops.Goals as goal

pub returns-clause-value : goal.returns-clause-value
returns-clause-value c = λ w reads has.
    let made = c.in_ok-made.ensures in
    let to = c.in_ok-to.ensures in
    let after_to = made.builds.reads w reads in
    let held = c.args.held.now in
    let net = c.args.net.now.files in
    let failures = failures_of w c.args.sym.now in
    let packet = packet_of w c.args.packet.now in
    let sought = sought_by w c.args.aim.now in
    let hops = hops_towards net failures packet c.args.router in
    let P : List Hop → Type 0 = λ hs. IsTwin sought hs (forwarding_of w c.in_ok-made.made) in
    subst P (held_hops hops (at w held.valid) (address_of w held.next_hop))
    (chosen_where sought (at w held.valid) (at w held.valid) (hops (address_of w held.next_hop)) []
    (forwarding_of w c.in_ok-to.to) (forwarding_of w c.in_ok-none.none) (forwarding_of w c.in_ok-made.made)
    (made.value w reads) refl (λ there. to.value w after_to (has there))
    (c.in_ok-none.ensures.value w (to.builds.reads w after_to) sought))

pub returns-then-is_never-clause-value : goal.returns-then-is_never-clause-value
returns-then-is_never-clause-value c = λ w reads has.
    let held = c.args.held.now in
    let sought = sought_by w c.args.aim.now in
    let hops = hops_towards c.args.net.now.files (failures_of w c.args.sym.now) (packet_of w c.args.packet.now)
    c.args.router in
    let P : Bool → Type 0 = λ b. IsTwin sought
    (option_map_or (λ (r : BgpRec). hops r.next_hop) (cond b (Some (route_towards (address_of w held.next_hop))) None)
    []) (forwarding_of w c.in_ok-none.none) in
    subst P (sym (c.is_never.ensures.never c.if-is_never.true w reads)) (c.in_ok-none.ensures.value w reads sought)
