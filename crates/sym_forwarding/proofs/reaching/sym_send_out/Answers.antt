use Rattle.std.proofs.Common.{List, [], ◌∷◌, subst}
use Rattle.std.specs.Option.{option_map_or}
use Rattle.net_interfaces.specs.Interfaces.{addressed}
use Rattle.question_lang.specs.declared.walk.End.TheVariants.{Left}
use Rattle.question_lang.specs.declared.walk.Hop.{Hop}
use Rattle.question_lang.specs.declared.walk.Hop.TheVariants.{Ends}
use Rattle.question_lang.specs.Hops.{all_up, arrive, owner_on}
use Rattle.sym_policy.specs.Held.{failures_of}
use Rattle.sym_policy.specs.Records.{address_of}
use Rattle.sym_forwarding.specs.Aims.{sought_by}
use Rattle.sym_forwarding.specs.Firsts.{is_owner, owner_arrives}
use Rattle.sym_policy.specs.Packets.{packet_of}
use Rattle.sym_forwarding.specs.Symbolic.{forwarding_of}
use Rattle.sym_forwarding.specs.Twins.{IsTwin}
use Rattle.sym_forwarding.proofs.FirstHops.{else_twin, owner_first}
use Rattle.term_store.specs.Terms.{at}
use Rattle.sym_forwarding.proofs.reaching.sym_send_out.Goals as goal

pub returns-clause-value : goal.returns-clause-value
returns-clause-value c = λ w reads.
    let sent = c.args.sent.now in
    let made = c.in_ok-made.ensures in
    let on = c.in_ok-on.ensures in
    let first = c.in_ok-first.ensures in
    let left = c.in_ok-left.ensures in
    let after_on = made.builds.reads w reads in
    let after_first = on.builds.reads w after_on in
    let after_left = first.builds.reads w after_first in
    let net = sent.net.now.files in
    let failures = failures_of w sent.sym.now in
    let packet = packet_of w sent.packet.now in
    let a = address_of w c.args.a.now in
    let subnet = c.args.out.now.subnet in
    let sought = sought_by w sent.aim.now in
    let P : List Hop → Type 0 = λ hops. IsTwin sought hops (forwarding_of w c.in_ok-on.on) in
    let there = subst P (owner_first net failures packet subnet a (Ends (Left a)) (addressed net))
    (else_twin sought (is_owner net failures subnet a) (owner_arrives net packet) (addressed net)
    (at w c.in_ok-first.first.any) (Ends (Left a) ∷ []) (forwarding_of w c.in_ok-first.first.to)
    (forwarding_of w c.in_ok-left.left) (forwarding_of w c.in_ok-on.on) (first.value w after_first)
    (left.value w after_left) (on.value w after_on)) in
    made.value w reads
    (option_map_or (arrive net packet) (owner_on (all_up net failures) subnet a) (Ends (Left a))) there
