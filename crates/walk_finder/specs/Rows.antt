-- Hops of routers as forwarding tables.
use Rattle.std.specs.Prelude.{◌≡◌, ℕ, true, false, List, [], map, Contains, Some, None, slice_get}
use Rattle.std.specs.Option.{is_some}
use Rattle.question_lang.specs.declared.walk.End.{End}
use Rattle.question_lang.specs.declared.walk.Hop.{Hop}
use Rattle.question_lang.specs.declared.walk.Hop.TheVariants.{To, Ends}
use Rattle.walk_def.specs.Marks.{is_end}
use Rattle.sym_forwarding.specs.Layers.{Edge, Forwarding}
use Rattle.walk_finder.specs.declared.rows.Row.{Row}

-- the router to which a hop leads; none, where it ends
abbrev pub edge_of : Hop → Edge
edge_of (To i) = record { when = true; to = i.router }
edge_of (Ends end) = record { when = false; to = 0 }

-- where a router may send the packet, and whether a walk may end there as looked for
abbrev pub forwarding_of : Row → Forwarding
forwarding_of row = record { next = map edge_of row.hops; ends = is_some row.end }

abbrev pub table_of : List Row → List Forwarding
table_of rows = map forwarding_of rows

-- the row of a router that does nothing with the packet
abbrev pub silent_row : Row
silent_row = record { hops = []; end = None }

-- the row of a router with these hops: its end is among them
pub record IsRowOf (own : List Hop) (row : Row) : Type 0 where
  pub sent : row.hops ≡ own
  pub ends : (end : End) → row.end ≡ Some end → (is_end end ≡ true) × Contains own (Ends end)

-- so is each
abbrev pub AreRowsOf : (ℕ → List Hop) → List Row → Type 0
AreRowsOf hops rows = (router : ℕ) (row : Row) → slice_get rows router ≡ Some row → IsRowOf (hops router) row
