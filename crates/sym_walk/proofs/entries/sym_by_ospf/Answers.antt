use Rattle.std.proofs.Common.{eqb}
use Rattle.mw_text.specs.Address.{prefix_at}
use Rattle.question_lang.specs.Hops.{ospf_hops}
use Rattle.sym_policy.specs.Records.{address_of}
use Rattle.sym_forwarding.specs.Aims.{sought_by}
use Rattle.sym_forwarding.specs.Symbolic.{forwarding_of}
use Rattle.sym_rib.specs.Worlds.{read_world, slot_of}
use Rattle.sym_forwarding.proofs.Twins.{chosen_lists}
use Rattle.term_arith.specs.Bits.{number}
use Rattle.term_store.specs.Terms.{at}
use Rattle.sym_walk.proofs.entries.sym_by_ospf.Goals as goal

pub returns-clause-value : goal.returns-clause-value
returns-clause-value c = λ w reads others twin.
    let stop = c.args.stop.now in
    let made = c.in_ok-made.ensures in
    let to = c.in_ok-to.ensures in
    let test = c.in_ok-test.ensures in
    let after_to = made.builds.reads w reads in
    let slot = c.args.slot.now in
    chosen_lists (sought_by w c.args.aim.now) (at w c.in_ok-test.test) (eqb (number w slot.rib.source.nodes.items) 3)
    (ospf_hops stop.net.now.files (read_world w stop.sym.now stop.packet.now stop.tables.now) stop.router
    (prefix_at (address_of w stop.packet.now.dst) c.args.len) (slot_of w slot)) others
    (forwarding_of w c.in_ok-to.to) (forwarding_of w c.args.rest) (forwarding_of w c.in_ok-made.made)
    (made.value w reads) (test.value w (to.builds.reads w after_to)) (to.value w after_to) twin
