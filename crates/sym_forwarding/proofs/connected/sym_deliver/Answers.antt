use Rattle.question_lang.specs.declared.walk.End.TheVariants.{Delivered}
use Rattle.question_lang.specs.declared.walk.Hop.TheVariants.{Ends}
use Rattle.net_interfaces.specs.Interfaces.{addressed}
use Rattle.sym_policy.specs.Held.{failures_of}
use Rattle.sym_policy.specs.Records.{address_of}
use Rattle.sym_forwarding.specs.Owners.{owner_hop}
use Rattle.sym_policy.specs.Packets.{packet_of}
use Rattle.sym_forwarding.proofs.connected.sym_deliver.Goals as goal

pub returns-clause-value : goal.returns-clause-value
returns-clause-value c = λ w reads.
    let sent = c.args.sent.now in
    let made = c.in_ok-made.ensures in
    let on = c.in_ok-on.ensures in
    let delivered = c.in_ok-delivered.ensures in
    let before = made.builds.reads w reads in
    made.value w reads
    (owner_hop sent.net.now.files (failures_of w sent.sym.now) (packet_of w sent.packet.now) c.args.x.now.subnet
    (address_of w sent.packet.now.dst) (Ends Delivered) (addressed sent.net.now.files))
    (on.value w before (Ends Delivered) (delivered.value w (on.builds.reads w before)))
