-- Questions that only a loop breaks, and entries over which nothing loops.
use Rattle.std.specs.Prelude.{ℕ, ◌+◌, Bool, true, false, nat_le, Option}
use Rattle.std.specs.Option.{option_map_or}
use Rattle.question_lang.specs.declared.question.Kind.{Kind}
use Rattle.question_lang.specs.declared.question.Kind.TheVariants.{Reach, Isolate, Waypoint, NoLoop, NoBlackHole}
use Rattle.question_lang.specs.declared.question.Kind.TheVariants.{Within, Alike, NoStable}
use Rattle.route_record.specs.declared.RibEntry.{RibEntry}
use Rattle.loop_free_walks.specs.Entries.{is_interior}
use Rattle.sym_rib.specs.declared.slots.SymSlot.{SymSlot}
use Rattle.sym_rib.specs.Slots.{rib_of}
use Rattle.term_store.specs.Terms.{Reading}

-- it asks for no loop, or for at least as many hops as a walk has that comes to each router once
abbrev pub only_loops : Kind → ℕ → Bool
only_loops (Reach start target) routers = false
only_loops (Isolate start target) routers = false
only_loops (Waypoint start target via) routers = false
only_loops (NoLoop start) routers = true
only_loops (NoBlackHole start) routers = false
only_loops (Within most start) routers = nat_le routers (most + 1)
only_loops (Alike a b target) routers = false
only_loops NoStable routers = false

-- the entry, if there is one, is of a connected subnet or of OSPF
abbrev pub is_interior_entry : Option RibEntry → Bool
is_interior_entry o = option_map_or (λ entry. is_interior entry.source) o true

-- that of a symbolic slot
abbrev pub is_interior_read : Reading → SymSlot → Bool
is_interior_read w s = is_interior_entry (rib_of w s.rib)
