use Rattle.std.proofs.Common.{◌≡◌, drop, []}
use Rattle.serde_json.specs.View.{items_view}
use Rattle.cex_json.specs.Fields.{in_order}
use Rattle.cex_json.specs.Entries.{slot_step}
use Rattle.cex_json.proofs.slots.take_slots.Given as goal

-- what is read of the entries that are left, behind the slots so far, is read of all
abbrev pub invariant-loop-place : goal.invariant-loop-place
invariant-loop-place l =
    in_order (slot_step l.net.files) l.place l.slots (items_view (drop l.place l.members))
    ≡ in_order (slot_step l.net.files) 0 [] (items_view l.members)
