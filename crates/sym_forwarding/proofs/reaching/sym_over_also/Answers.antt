use Rattle.std.proofs.Common.{◌∙◌, sym}
use Rattle.sym_policy.specs.Held.{failures_of}
use Rattle.sym_policy.specs.Records.{address_of}
use Rattle.sym_forwarding.specs.Aims.{sought_by}
use Rattle.sym_forwarding.specs.Firsts.{reaches, sent_to}
use Rattle.sym_policy.specs.Packets.{packet_of}
use Rattle.sym_forwarding.specs.Symbolic.{forwarding_of}
use Rattle.sym_forwarding.proofs.FirstHops.{first_past}
use Rattle.term_store.specs.Terms.{at}
use Rattle.sym_forwarding.proofs.reaching.sym_over_also.Goals as goal

pub returns-clause-value : goal.returns-clause-value
returns-clause-value c = λ w reads xs before.
    let sent = c.args.sent.now in
    let made = c.in_ok-made.ensures in
    let to = c.in_ok-to.ensures in
    let after_to = made.builds.reads w reads in
    made.value w reads (sought_by w sent.aim.now)
    (reaches sent.net.now.files (failures_of w sent.sym.now) c.args.router (address_of w c.args.a.now))
    (sent_to sent.net.now.files (failures_of w sent.sym.now) (packet_of w sent.packet.now) (address_of w c.args.a.now))
    xs c.args.x.now before
    (c.in_ok-here.ensures.value w (to.builds.reads w after_to)) (to.value w after_to)

pub returns-then-is_never-clause-value : goal.returns-then-is_never-clause-value
returns-then-is_never-clause-value c = λ w reads xs before.
    let sent = c.args.sent.now in
    let fails = sym (c.in_ok-here.ensures.value w reads) ∙ c.is_never.ensures.never c.if-is_never.true w reads in
    first_past (sought_by w sent.aim.now)
    (reaches sent.net.now.files (failures_of w sent.sym.now) c.args.router (address_of w c.args.a.now))
    (sent_to sent.net.now.files (failures_of w sent.sym.now) (packet_of w sent.packet.now) (address_of w c.args.a.now))
    xs c.args.x.now (at w c.args.before.any) (forwarding_of w c.args.before.to) fails before
