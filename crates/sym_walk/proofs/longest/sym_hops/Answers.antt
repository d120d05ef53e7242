use Rattle.std.proofs.Common.{[], ◌∷◌}
use Rattle.std.specs.Prelude.{◌==◌}
use Rattle.std.specs.List.{list_any}
use Rattle.net_parts.specs.Routing.{up_interfaces}
use Rattle.question_lang.specs.declared.walk.End.TheVariants.{Delivered}
use Rattle.question_lang.specs.declared.walk.Hop.TheVariants.{Ends}
use Rattle.question_lang.specs.Hops.{longest_below}
use Rattle.route_record.specs.declared.TheConstants.{LENGTHS}
use Rattle.sym_policy.specs.Held.{failures_of}
use Rattle.sym_forwarding.specs.Aims.{sought_by}
use Rattle.sym_walk.specs.Entries.{by_entry}
use Rattle.sym_forwarding.specs.Symbolic.{forwarding_of}
use Rattle.sym_rib.specs.Worlds.{read_tables, read_world}
use Rattle.sym_forwarding.proofs.Twins.{chosen_lists}
use Rattle.term_arith.specs.Bits.{number}
use Rattle.term_store.specs.Terms.{at}
use Rattle.sym_walk.proofs.longest.sym_hops.Goals as goal

pub returns-clause-value : goal.returns-clause-value
returns-clause-value c = λ w reads needed.
    let stop = c.args.stop.now in
    let made = c.in_ok-made.ensures in
    let on = c.in_ok-on.ensures in
    let here = c.in_ok-here.ensures in
    let own = c.in_ok-own.ensures in
    let after_on = made.builds.reads w reads in
    let after_here = on.builds.reads w after_on in
    let net = stop.net.now.files in
    let mine = up_interfaces net (failures_of w stop.sym.now) stop.router in
    chosen_lists (sought_by w c.args.aim.now) (at w c.in_ok-own.own)
    (list_any (λ x. x.addr.0 == number w stop.packet.now.dst.nodes.items) mine)
    (Ends Delivered ∷ [])
    (by_entry net (read_world w stop.sym.now stop.packet.now stop.tables.now) stop.router c.args.file.now
    (longest_below (read_tables w stop.tables.now) stop.router LENGTHS))
    (forwarding_of w c.in_ok-here.here) (forwarding_of w c.in_ok-on.on) (forwarding_of w c.in_ok-made.made)
    (made.value w reads) (own.value w (here.builds.reads w after_here)) (here.value w after_here)
    (on.value w after_on needed)
