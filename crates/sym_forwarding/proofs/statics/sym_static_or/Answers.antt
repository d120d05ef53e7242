use Rattle.sym_policy.specs.Held.{failures_of}
use Rattle.sym_policy.specs.Records.{prefix_of}
use Rattle.sym_forwarding.specs.Aims.{sought_by}
use Rattle.sym_policy.specs.Packets.{packet_of}
use Rattle.sym_forwarding.specs.Statics.{is_taken, route_hops}
use Rattle.sym_forwarding.specs.Symbolic.{forwarding_of}
use Rattle.sym_forwarding.proofs.Twins.{united_twin}
use Rattle.term_arith.specs.Bits.{number}
use Rattle.term_store.specs.Terms.{at}
use Rattle.sym_forwarding.proofs.statics.sym_static_or.Goals as goal

pub returns-clause-value : goal.returns-clause-value
returns-clause-value c = λ w reads others twin.
    let sent = c.args.sent.now in
    let made = c.in_ok-made.ensures in
    let to = c.in_ok-to.ensures in
    let taken = c.in_ok-taken.ensures in
    let before = made.builds.reads w reads in
    let route = c.args.route.now in
    united_twin (sought_by w sent.aim.now) (at w c.in_ok-taken.taken)
    (is_taken (prefix_of w sent.packet.now.dst c.args.len) (number w c.args.distance.now.nodes.items) route) others
    (route_hops sent.net.now.files (failures_of w sent.sym.now) (packet_of w sent.packet.now) c.args.router route)
    (forwarding_of w c.args.rest) (forwarding_of w c.in_ok-to.to) (forwarding_of w c.in_ok-made.made)
    (made.value w reads) (taken.value w (to.builds.reads w before)) twin (to.value w before)
