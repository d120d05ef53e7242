-- Numbers as lists of nodes, lowest bit first, and what a reading makes of them.
use Rattle.std.specs.Prelude.{ℕ, zero, suc, ◌+◌, ◌*◌, max, Bool, true, false, ◌&&◌, ◌||◌, List, [], ◌∷◌, map}
use Rattle.term_store.specs.declared.NodeId.{NodeId}
use Rattle.term_store.specs.Terms.{Reading, at}

-- 1 for true and 0 for false
abbrev pub bit : Bool → ℕ
bit true = 1
bit false = 0

-- the number that truth values are the bits of, lowest first
abbrev pub number_of : List Bool → ℕ
number_of [] = 0
number_of (b ∷ bs) = bit b + 2 * number_of bs

-- the truth values that a reading gives to nodes
abbrev pub bits : Reading → List NodeId → List Bool
bits w ids = map (at w) ids

-- the number that a reading gives to nodes
abbrev pub number : Reading → List NodeId → ℕ
number w ids = number_of (bits w ids)

-- the truth values that a reading gives to so many variables, from that number on
abbrev pub variables : Reading → ℕ → ℕ → List Bool
variables w first zero = []
variables w first (suc count) = w.variable first ∷ variables w (first + 1) count

-- the least size of a store that has all of these nodes
abbrev pub ids_end : List NodeId → ℕ
ids_end [] = 0
ids_end (id ∷ ids) = max (id.0 + 1) (ids_end ids)

-- a row of bits that say "more than 0", "more than 1" and so on, after one more bit; `before` is the bit before the row
abbrev pub raised : Bool → Bool → List Bool → List Bool
raised before b [] = []
raised before b (r ∷ rs) = (r || (before && b)) ∷ raised r b rs
