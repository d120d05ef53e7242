-- What a reading makes of symbolic forwarding tables.
use Rattle.std.specs.Prelude.{ℕ, zero, suc, ◌+◌, ◌&&◌, ◌||◌, max, Bool, true, if◌then◌else◌, List, [], ◌∷◌, map}
use Rattle.term_store.specs.Terms.{Reading, at}
use Rattle.sym_forwarding.specs.declared.forwarding.SymBeginning.{SymBeginning}
use Rattle.sym_forwarding.specs.declared.forwarding.SymEdge.{SymEdge}
use Rattle.sym_forwarding.specs.declared.forwarding.SymForwarding.{SymForwarding}
use Rattle.sym_forwarding.specs.Layers.{Beginning, Edge, Forwarding, sends_on}

abbrev pub edge_of : Reading → SymEdge → Edge
edge_of w e = record { when = at w e.when; to = e.to }

abbrev pub edges_of : Reading → List SymEdge → List Edge
edges_of w es = map (edge_of w) es

abbrev pub forwarding_of : Reading → SymForwarding → Forwarding
forwarding_of w f = record { next = edges_of w f.next.items; ends = at w f.ends }

abbrev pub table_of : Reading → List SymForwarding → List Forwarding
table_of w table = map (forwarding_of w) table

-- the least size of a store that has all of their nodes
abbrev pub edges_end : List SymEdge → ℕ
edges_end [] = 0
edges_end (e ∷ es) = max (e.when.0 + 1) (edges_end es)

abbrev pub forwarding_end : SymForwarding → ℕ
forwarding_end f = max (f.ends.0 + 1) (edges_end f.next.items)

abbrev pub table_end : List SymForwarding → ℕ
table_end [] = 0
table_end (f ∷ fs) = max (forwarding_end f) (table_end fs)

-- the mark of a router one layer on; where ends count, one at which a walk may end is marked too
abbrev pub marked_on : Bool → List Bool → Forwarding → Bool
marked_on ends_count marks f = (ends_count && f.ends) || sends_on marks f

-- the mark of a router in the first layer
abbrev pub marked_first : Bool → Forwarding → Bool
marked_first ends_count f = if ends_count then f.ends else true

-- the marks of that layer: `arriving` where ends count, and else `going`
unfoldable pub layered : Bool → List Forwarding → ℕ → List Bool
layered ends_count table zero = map (marked_first ends_count) table
layered ends_count table (suc hops) = map (marked_on ends_count (layered ends_count table hops)) table

-- what is known of the start
abbrev pub beginning_of : Reading → SymBeginning → Beginning
beginning_of w at_start = record { begins = at w at_start.begins; denied = at w at_start.denied }

abbrev pub beginning_end : SymBeginning → ℕ
beginning_end at_start = max (at_start.begins.0 + 1) (at_start.denied.0 + 1)
