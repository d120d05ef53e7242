-- The slots of tables, by router and prefix length.
use Rattle.std.specs.Prelude.{ℕ, ◌+◌, ◌*◌, Option, slice_get}
use Rattle.route_record.specs.declared.Slot.{Slot}
use Rattle.route_record.specs.declared.Tables.{Tables}
use Rattle.route_record.specs.declared.TheConstants.{LENGTHS}

-- the slot of a router for a prefix length
abbrev pub slot_at : Tables → ℕ → ℕ → Option Slot
slot_at tables router len = slice_get tables.slots (LENGTHS * router + len)
