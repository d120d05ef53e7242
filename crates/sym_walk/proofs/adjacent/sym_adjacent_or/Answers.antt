use Rattle.std.proofs.Common.{◌&&◌, [], ◌∷◌}
use Rattle.question_lang.specs.Hops.{send_adjacent}
use Rattle.sym_policy.specs.Held.{failures_of, ospf_of}
use Rattle.sym_policy.specs.Records.{prefix_of}
use Rattle.sym_forwarding.specs.Aims.{sought_by}
use Rattle.sym_forwarding.specs.Offers.{is_up_from, offers}
use Rattle.sym_policy.specs.Packets.{packet_of}
use Rattle.sym_forwarding.specs.Symbolic.{forwarding_of}
use Rattle.sym_rib.specs.Worlds.{read_tables}
use Rattle.sym_forwarding.proofs.Twins.{united_twin}
use Rattle.term_store.specs.Terms.{at}
use Rattle.sym_walk.proofs.adjacent.sym_adjacent_or.Goals as goal

pub returns-clause-value : goal.returns-clause-value
returns-clause-value c = λ w reads others twin.
    let stop = c.args.stop.now in
    let made = c.in_ok-made.ensures in
    let to = c.in_ok-to.ensures in
    let taken = c.in_ok-taken.ensures in
    let before = made.builds.reads w reads in
    let a = c.args.a.now in
    let net = stop.net.now.files in
    united_twin (sought_by w c.args.aim.now) (at w c.in_ok-taken.taken)
    (is_up_from net (failures_of w stop.sym.now) stop.router a
    && offers (read_tables w stop.tables.now) (prefix_of w stop.packet.now.dst c.args.len) (ospf_of w
    c.args.held.now) a) others
    (send_adjacent net (packet_of w stop.packet.now) a ∷ [])
    (forwarding_of w c.args.rest) (forwarding_of w c.in_ok-to.to) (forwarding_of w c.in_ok-made.made)
    (made.value w reads) (taken.value w (to.builds.reads w before)) twin (to.value w before)
