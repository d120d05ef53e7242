use Rattle.std.proofs.Common.{◌&&◌, [], ◌∷◌, subst}
use Rattle.std.specs.Prelude.{◌==◌}
use Rattle.std.proofs.lemmas.Bool.{and_parts}
use Rattle.mw_text.specs.declared.address.Prefix.{Prefix}
use Rattle.mw_text.specs.Address.{same_prefix}
use Rattle.net_parts.specs.World.{is_up}
use Rattle.sym_policy.specs.Held.{failures_of}
use Rattle.sym_policy.specs.Records.{prefix_of}
use Rattle.net_model.proofs.OneSubnet.{one_prefix}
use Rattle.sym_forwarding.specs.Aims.{sought_by}
use Rattle.sym_forwarding.specs.Owners.{delivered_hop}
use Rattle.sym_policy.specs.Packets.{packet_of}
use Rattle.sym_forwarding.specs.Symbolic.{forwarding_of}
use Rattle.sym_forwarding.specs.Twins.{IsTwin}
use Rattle.sym_forwarding.proofs.Twins.{chosen_where}
use Rattle.term_store.specs.Terms.{at}
use Rattle.sym_forwarding.proofs.connected.sym_connected_or.Goals as goal

pub returns-clause-value : goal.returns-clause-value
returns-clause-value c = λ w reads others twin.
    let sent = c.args.sent.now in
    let made = c.in_ok-made.ensures in
    let to = c.in_ok-to.ensures in
    let here = c.in_ok-here.ensures in
    let before = made.builds.reads w reads in
    let x = c.args.x.now in
    let net = sent.net.now.files in
    let failures = failures_of w sent.sym.now in
    let packet = packet_of w sent.packet.now in
    let p = prefix_of w sent.packet.now.dst c.args.len in
    let sought = sought_by w sent.aim.now in
    let own = (x.id.router == c.args.router) && is_up net failures x in
    let P : Prefix → Type 0 = λ q. IsTwin sought (delivered_hop net failures packet q x ∷ []) (forwarding_of w
    c.in_ok-to.to) in
    chosen_where sought (at w c.in_ok-here.here) (own && same_prefix x.subnet p)
    (delivered_hop net failures packet p x ∷ []) others
    (forwarding_of w c.in_ok-to.to) (forwarding_of w c.args.rest) (forwarding_of w c.in_ok-made.made)
    (made.value w reads) (here.value w (to.builds.reads w before))
    (λ h. subst P (one_prefix x.subnet p (and_parts own (same_prefix x.subnet p) h).1) (to.value w before)) twin
