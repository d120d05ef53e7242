use Rattle.std.proofs.Common.{◌≡◌, Bool, List, cond, map, subst, ap₂}
use Rattle.std.specs.List.{list_any}
use Rattle.net_interfaces.specs.Interfaces.{addressed}
use Rattle.net_parts.specs.Sending.{sent_towards}
use Rattle.question_lang.specs.declared.walk.Hop.{Hop}
use Rattle.question_lang.specs.Hops.{send_adjacent}
use Rattle.sym_policy.specs.Held.{failures_of}
use Rattle.sym_policy.specs.Records.{address_of}
use Rattle.sym_forwarding.specs.Aims.{sought_by}
use Rattle.sym_forwarding.specs.Firsts.{first_hop, reaches, sent_to}
use Rattle.sym_policy.specs.Packets.{packet_of}
use Rattle.sym_forwarding.specs.Symbolic.{forwarding_of}
use Rattle.sym_forwarding.specs.Towards.{hops_towards}
use Rattle.sym_forwarding.specs.Twins.{IsTwin}
use Rattle.sym_forwarding.proofs.FirstHops.{else_twin, reached_any, sent_over}
use Rattle.term_store.specs.Terms.{at}
use Rattle.sym_forwarding.proofs.towards.sym_to_next_hop.Goals as goal

pub returns-clause-value : goal.returns-clause-value
returns-clause-value c = λ w reads has.
    let sent = c.args.sent.now in
    let made = c.in_ok-made.ensures in
    let led = c.in_ok-led.ensures in
    let over = c.in_ok-over.ensures in
    let after_led = made.builds.reads w reads in
    let after_over = led.builds.reads w after_led in
    let net = sent.net.now.files in
    let failures = failures_of w sent.sym.now in
    let packet = packet_of w sent.packet.now in
    let a = address_of w c.args.a.now in
    let router = c.args.router in
    let sought = sought_by w sent.aim.now in
    let others = map (send_adjacent net packet) (sent_towards net failures router a) in
    let P : List Hop → Type 0 = λ hops. IsTwin sought hops (forwarding_of w c.in_ok-made.made) in
    let same : cond (list_any (reaches net failures router a) (addressed net))
    (first_hop (reaches net failures router a) (sent_to net failures packet a) (addressed net)) others
    ≡ hops_towards net failures packet router a =
    ap₂ (λ (b : Bool) (hops : List Hop). cond b hops others) (reached_any net failures router a)
    (sent_over net failures packet router a) in
    subst P same
    (else_twin sought (reaches net failures router a) (sent_to net failures packet a) (addressed net)
    (at w c.in_ok-over.over.any) others (forwarding_of w c.in_ok-over.over.to) (forwarding_of w c.in_ok-led.led)
    (forwarding_of w c.in_ok-made.made) (over.value w after_over) (led.value w after_led has) (made.value w reads))
