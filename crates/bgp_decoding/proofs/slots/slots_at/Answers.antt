use Rattle.std.proofs.Common.{◌++◌, ◌+◌, ◌∙◌, List, ap, arith, drop, get_or, length, map, sym}
use Rattle.route_record.specs.declared.Slot.{Slot}
use Rattle.plan_places.specs.declared.places.Place.{Place}
use Rattle.plan_places.specs.Places.{item_at, places_below}
use Rattle.bgp_decoding.specs.Placed.{thing_in}
use Rattle.bgp_decoding.specs.Slots.{learnt_of, slot_without}
use Rattle.bgp_decoding.proofs.Rows.{items_next, row_end}
use Rattle.bgp_decoding.proofs.SlotSteps.{slot_told}
use Rattle.bgp_decoding.proofs.slots.slots_at.Goals as goal

pub loop-p-preserved : goal.loop-p-preserved
loop-p-preserved c =
    let setting = c.args.setting.now in
    let files = setting.net.now.files in
    let rows = length files in
    let slot = slot_without files setting.destinations.now setting.failures.now setting.d in
    let slot_for : Place → Slot = λ p. slot p (item_at (places_below c.args.lens.now rows) c.args.unknowns.now p.router p.len)
    (learnt_of (thing_in c.args.lens.now rows c.args.told.now p)) in
    let k = c.loop-p.p-index in
    let unknown = c.item_among-unknown.ensures rows c.requires.open in
    let route = c.route_there-route.ensures rows c.requires.long in
    ap (λ (xs : List Slot). xs ++ map slot_for (drop (k + 1) c.args.places.now)) c.in_ok-push.ensures.items
    ∙ items_next slot_for c.args.places.now k _ c.loop-p.made.items c.slot_at-slot.result c.loop-p-test.true
    (slot_told files setting.destinations.now setting.failures.now setting.d (get_or c.args.places.now k _) _ _ _ _ _
    c.slot_at-slot.ensures unknown route)
    ∙ c.loop-p.invariant

pub returns : goal.returns
returns c =
    let setting = c.args.setting.now in
    let files = setting.net.now.files in
    let rows = length files in
    let slot_for : Place → Slot = λ p. slot_without files setting.destinations.now setting.failures.now setting.d p
    (item_at (places_below c.args.lens.now rows) c.args.unknowns.now p.router p.len)
    (learnt_of (thing_in c.args.lens.now rows c.args.told.now p)) in
    sym (row_end slot_for c.args.places.now c.loop-p.p-index c.loop-p.made.items (omega (arith, c.loop-p-test.false)))
    ∙ c.loop-p.invariant
