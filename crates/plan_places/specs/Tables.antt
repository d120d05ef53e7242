-- Tables that have a given slot at each router and length; and those that follow from what is open at the places of a
-- formula, with nothing at all others.
use Rattle.std.specs.Prelude.{ℕ, zero, suc, ◌&&◌, Bool, true, false, List, [], ◌∷◌, ◌++◌, None}
use Rattle.std.specs.Option.{option_map_or}
use Rattle.route_record.specs.declared.Slot.{Slot}
use Rattle.route_record.specs.declared.Tables.{Tables}
use Rattle.route_record.specs.declared.TheConstants.{LENGTHS}
use Rattle.plan_places.specs.declared.places.Place.{Place}
use Rattle.plan_places.specs.Places.{item_at, place}

-- a slot in which nothing stands
abbrev pub empty_slot : Slot
empty_slot = record { ospf = None; bgp = None; rib = None }

-- what a function gives of so many numbers from one on
unfoldable pub row_from : (ℕ → Slot) → ℕ → ℕ → List Slot
row_from f from zero = []
row_from f from (suc n) = f from ∷ row_from f (suc from) n

-- and what it gives of all lengths, for so many routers from one on
unfoldable pub rows_from : (ℕ → ℕ → Slot) → ℕ → ℕ → List Slot
rows_from f router zero = []
rows_from f router (suc n) = row_from (f router) 0 LENGTHS ++ rows_from f (suc router) n

-- the tables of so many routers with that slot of each router at each length
abbrev pub tabulated : (ℕ → ℕ → Slot) → ℕ → Tables
tabulated f routers = record { slots = rows_from f 0 routers }

-- the slot of a router at a length, where these things are open, one at each place: nothing off the places
abbrev pub slot_among : {U : Type 0} → (Place → U → Slot) → List Place → List U → ℕ → ℕ → Slot
slot_among slot_of places us router len =
    option_map_or (slot_of (place router len)) (item_at places us router len) empty_slot

-- the tables of so many routers that follow
abbrev pub tables_over : {U : Type 0} → (Place → U → Slot) → List Place → List U → ℕ → Tables
tables_over slot_of places us routers = tabulated (slot_among slot_of places us) routers

-- what is open at each place passes the test, and there are as many things as places
unfoldable pub all_hold : {U : Type 0} → (Place → U → Bool) → List Place → List U → Bool
all_hold holds [] [] = true
all_hold holds [] (u ∷ us) = false
all_hold holds (p ∷ ps) [] = false
all_hold holds (p ∷ ps) (u ∷ us) = holds p u && all_hold holds ps us
