use Rattle.std.proofs.Common.{◌≡◌, ℕ, length, Some}
use Rattle.std.specs.Prelude.{slice_get}
use Rattle.route_record.specs.declared.Slot.{Slot}
use Rattle.proto_rib.specs.Unfailed.{IsSlotAt}
use Rattle.proto_rib.proofs.tables.tables_of.Given as goal

-- each slot so far is that of its place
abbrev pub invariant-loop-place : goal.invariant-loop-place
invariant-loop-place l =
    (length l.slots-inside.items.items ≡ l.place) ×
    ((k : ℕ) (slot : Slot) → slice_get l.slots-inside.items.items k ≡ Some slot → IsSlotAt l.net.files l.d k slot)
