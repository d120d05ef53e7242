use Rattle.std.proofs.Common.{◌≡◌, false, rules}
use Rattle.mw_text.specs.Address.{same_prefix}
use Rattle.sym_policy.specs.Held.{failures_of}
use Rattle.sym_policy.specs.Records.{address_of}
use Rattle.sym_forwarding.specs.Aims.{sought_by}
use Rattle.sym_forwarding.specs.Firsts.{is_owner, owner_arrives}
use Rattle.sym_policy.specs.Packets.{packet_of}
use Rattle.sym_forwarding.specs.Symbolic.{forwarding_of}
use Rattle.sym_forwarding.proofs.FirstHops.{first_past, not_owner}
use Rattle.term_store.specs.Terms.{at}
use Rattle.sym_forwarding.proofs.reaching.sym_owner_also.Goals as goal

pub returns-clause-value : goal.returns-clause-value
returns-clause-value c = λ w reads xs before.
    let sent = c.args.sent.now in
    let made = c.in_ok-made.ensures in
    let to = c.in_ok-to.ensures in
    let after_to = made.builds.reads w reads in
    made.value w reads (sought_by w sent.aim.now)
    (is_owner sent.net.now.files (failures_of w sent.sym.now) c.args.subnet.now (address_of w c.args.a.now))
    (owner_arrives sent.net.now.files (packet_of w sent.packet.now)) xs c.args.x.now before
    (c.in_ok-here.ensures.value w (to.builds.reads w after_to)) (to.value w after_to)

pub returns-then-ne-clause-value : goal.returns-then-ne-clause-value
returns-then-ne-clause-value c = λ w reads xs before.
    let sent = c.args.sent.now in
    let net = sent.net.now.files in
    let failures = failures_of w sent.sym.now in
    let a = address_of w c.args.a.now in
    let other : same_prefix c.args.x.now.subnet c.args.subnet.now ≡ false = search rules in
    first_past (sought_by w sent.aim.now) (is_owner net failures c.args.subnet.now a)
    (owner_arrives net (packet_of w sent.packet.now)) xs c.args.x.now (at w c.args.before.any)
    (forwarding_of w c.args.before.to) (not_owner net failures c.args.subnet.now a c.args.x.now other) before
