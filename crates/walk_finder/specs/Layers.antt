-- Layers of marks over the hops of routers.
use Rattle.std.specs.Prelude.{◌≡◌, ℕ, ◌+◌, Bool, true, false, ◌&&◌, ◌||◌, if◌then◌else◌, List, length, Some, slice_get}
use Rattle.std.specs.List.{list_any}
use Rattle.std.specs.Option.{is_some}
use Rattle.walk_def.specs.Arriving.{leads_to_known}
use Rattle.sym_forwarding.specs.Layers.{Forwarding, arriving, going}
use Rattle.walk_finder.specs.declared.rows.Row.{Row}

-- the layers of walks that end as looked for, and those of walks that go on
abbrev pub layer : Bool → List Forwarding → ℕ → List Bool
layer true table hops = arriving table hops
layer false table hops = going table hops

-- the mark of a router in the first layer
abbrev pub first_mark : Bool → Row → Bool
first_mark to_ends row = if to_ends then is_some row.end else true

-- its mark in the layer after these marks
abbrev pub next_mark : Bool → List Bool → Row → Bool
next_mark to_ends marks row = (to_ends && is_some row.end) || list_any (leads_to_known marks) row.hops

-- the first layer, and so many more
pub record AreLayers (to_ends : Bool) (table : List Forwarding) (count : ℕ) (layers : List (List Bool)) : Type 0 where
  pub long : length layers ≡ count + 1
  pub each : (k : ℕ) (marks : List Bool) → slice_get layers k ≡ Some marks → marks ≡ layer to_ends table k
