use Rattle.question_lang.specs.Hops.{arrive}
use Rattle.sym_policy.specs.Packets.{packet_of}
use Rattle.sym_forwarding.proofs.adjacent.sym_send_adjacent.Goals as goal

pub returns-clause-value : goal.returns-clause-value
returns-clause-value c = λ w reads.
    let made = c.in_ok-made.ensures in
    let on = c.in_ok-on.ensures in
    made.value w reads (arrive c.args.net.now.files (packet_of w c.args.packet.now) c.args.a.now.to)
    (on.value w (made.builds.reads w reads))
