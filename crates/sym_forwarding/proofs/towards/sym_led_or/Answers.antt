use Rattle.std.proofs.Common.{◌&&◌, [], ◌∷◌}
use Rattle.net_parts.specs.Ospf.{advertised}
use Rattle.question_lang.specs.Hops.{send_adjacent}
use Rattle.sym_policy.specs.Held.{failures_of}
use Rattle.sym_policy.specs.Records.{address_of}
use Rattle.sym_forwarding.specs.Aims.{sought_by}
use Rattle.sym_forwarding.specs.Offers.{is_up_from}
use Rattle.sym_policy.specs.Packets.{packet_of}
use Rattle.sym_forwarding.specs.Symbolic.{forwarding_of}
use Rattle.sym_forwarding.specs.Towards.{leads_by}
use Rattle.sym_forwarding.proofs.Twins.{united_twin}
use Rattle.term_store.specs.Terms.{at}
use Rattle.sym_forwarding.proofs.towards.sym_led_or.Goals as goal

pub returns-clause-value : goal.returns-clause-value
returns-clause-value c = λ w reads has others twin.
    let sent = c.args.sent.now in
    let made = c.in_ok-made.ensures in
    let to = c.in_ok-to.ensures in
    let before = made.builds.reads w reads in
    let x = c.args.x.now in
    let net = sent.net.now.files in
    let failures = failures_of w sent.sym.now in
    united_twin (sought_by w sent.aim.now) (at w c.in_ok-taken.taken)
    (is_up_from net failures c.args.router x
    && leads_by net failures c.args.router (address_of w c.args.a.now) x (advertised net)) others
    (send_adjacent net (packet_of w sent.packet.now) x ∷ [])
    (forwarding_of w c.args.rest) (forwarding_of w c.in_ok-to.to) (forwarding_of w c.in_ok-made.made)
    (made.value w reads) (c.in_ok-taken.ensures.value w (to.builds.reads w before) has) twin (to.value w before)
