use Rattle.net_parts.specs.Routing.{up_interfaces}
use Rattle.question_lang.specs.Hops.{all_up}
use Rattle.sym_policy.specs.Held.{failures_of}
use Rattle.sym_forwarding.specs.Aims.{sought_by}
use Rattle.sym_walk.specs.Entries.{entry_of}
use Rattle.sym_forwarding.specs.Symbolic.{forwarding_of}
use Rattle.sym_rib.specs.Worlds.{read_world}
use Rattle.sym_forwarding.proofs.Twins.{chosen_lists}
use Rattle.std.proofs.Common.{refl}
use Rattle.term_store.specs.Terms.{at}
use Rattle.sym_walk.proofs.longest.sym_by_slot.Goals as goal

pub returns-clause-value : goal.returns-clause-value
returns-clause-value c = λ w reads needed others twin.
    let stop = c.args.stop.now in
    let made = c.in_ok-made.ensures in
    let to = c.in_ok-to.ensures in
    let slot = c.args.slot.now in
    let net = stop.net.now.files in
    let failures = failures_of w stop.sym.now in
    chosen_lists (sought_by w c.args.aim.now) (at w slot.rib.valid) (at w slot.rib.valid)
    (entry_of w net (read_world w stop.sym.now stop.packet.now stop.tables.now) (all_up net failures)
    (up_interfaces net failures stop.router) stop.router c.args.file.now c.args.len slot) others
    (forwarding_of w c.in_ok-to.to) (forwarding_of w c.args.rest) (forwarding_of w c.in_ok-made.made)
    (made.value w reads) refl (to.value w (made.builds.reads w reads) needed) twin
