use Rattle.std.proofs.Common.{◌≡◌, ◌++◌, drop, length, map}
use Rattle.plan_places.specs.Places.{item_at, places_below}
use Rattle.bgp_decoding.specs.Placed.{thing_in}
use Rattle.bgp_decoding.specs.Slots.{learnt_of, slot_without}
use Rattle.bgp_decoding.proofs.slots.slots_at.Given as goal

-- the slots that are there already, and those from here on
abbrev pub invariant-loop-p : goal.invariant-loop-p
invariant-loop-p l =
    let setting = l.setting in
    let files = setting.net.now.files in
    l.made.items ++ map (λ p. slot_without files setting.destinations.now setting.failures.now setting.d p
    (item_at (places_below l.lens (length files)) l.unknowns p.router p.len)
    (learnt_of (thing_in l.lens (length files) l.told p))) (drop l.p-index l.places)
    ≡ map (λ p. slot_without files setting.destinations.now setting.failures.now setting.d p
    (item_at (places_below l.lens (length files)) l.unknowns p.router p.len)
    (learnt_of (thing_in l.lens (length files) l.told p))) l.places
