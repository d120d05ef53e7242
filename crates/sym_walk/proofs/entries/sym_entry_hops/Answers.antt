use Rattle.std.proofs.Common.{List, cond, eqb, sym, subst}
use Rattle.mw_text.specs.Address.{prefix_at}
use Rattle.net_parts.specs.Routing.{up_interfaces}
use Rattle.question_lang.specs.declared.walk.Hop.{Hop}
use Rattle.question_lang.specs.Hops.{all_up, bgp_hops, ospf_hops}
use Rattle.sym_policy.specs.Held.{failures_of}
use Rattle.sym_policy.specs.Records.{address_of}
use Rattle.sym_forwarding.specs.Aims.{sought_by}
use Rattle.sym_walk.specs.Entries.{static_part}
use Rattle.sym_policy.specs.Packets.{packet_of}
use Rattle.sym_forwarding.specs.Symbolic.{forwarding_of}
use Rattle.sym_forwarding.specs.Twins.{IsTwin}
use Rattle.sym_rib.specs.Worlds.{read_world, slot_of}
use Rattle.sym_walk.proofs.EntryHops.{entry_by_number}
use Rattle.term_arith.specs.Bits.{number}
use Rattle.sym_walk.proofs.entries.sym_entry_hops.Goals as goal

pub returns-clause-value : goal.returns-clause-value
returns-clause-value c = λ w reads needed.
    let stop = c.args.stop.now in
    let made = c.in_ok-made.ensures in
    let plain = c.in_ok-plain.ensures in
    let ospf = c.in_ok-ospf.ensures in
    let bgp = c.in_ok-bgp.ensures in
    let after_plain = made.builds.reads w reads in
    let after_ospf = plain.builds.reads w after_plain in
    let after_bgp = ospf.builds.reads w after_ospf in
    let slot = c.args.slot.now in
    let net = stop.net.now.files in
    let failures = failures_of w stop.sym.now in
    let world = read_world w stop.sym.now stop.packet.now stop.tables.now in
    let up = all_up net failures in
    let own = up_interfaces net failures stop.router in
    let p = prefix_at (address_of w stop.packet.now.dst) c.args.len in
    let n = number w slot.rib.source.nodes.items in
    let by_bgp = bgp_hops net world up own stop.router (slot_of w slot) in
    let by_ospf = cond (eqb n 3) (ospf_hops net world stop.router p (slot_of w slot)) by_bgp in
    let by_static = cond (eqb n 1) (static_part net (packet_of w stop.packet.now) up own c.args.file.now.statics p
    (number w slot.rib.distance.nodes.items)) by_ospf in
    let P : List Hop → Type 0 = λ hs. IsTwin (sought_by w c.args.aim.now) hs (forwarding_of w c.in_ok-made.made) in
    subst P (sym (entry_by_number w net world up own stop.router c.args.file.now c.args.len slot))
    (made.value w reads by_static (plain.value w after_plain by_ospf
    (ospf.value w after_ospf by_bgp (bgp.value w after_bgp needed))))
