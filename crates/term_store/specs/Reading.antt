-- The words of the contracts over terms. What a call says of its results speaks of readings alone, so it stays true
-- while the store grows.
use Rattle.std.specs.Prelude.{◌≡◌, ℕ, ◌≤◌, slice_get, Some, Result, IfOk}
use Rattle.std.specs.declared.alloc.AllocError.{AllocError}
use Rattle.term_store.specs.declared.Node.{Node}
use Rattle.term_store.specs.Terms.{Store, Reading, size, gate}

-- at each number of the store the reading's value is that of the node there
unfoldable pub Reads : Reading → Store → Type 0
Reads w s = (i : ℕ) (n : Node) → slice_get s.nodes i ≡ Some n → w.node i ≡ gate w n

-- the node stands at the number
unfoldable pub Stands : Store → ℕ → Node → Type 0
Stands s i n = slice_get s.nodes i ≡ Some n

-- the later store has all that the earlier one had, so a reading of it is one of the earlier store too
pub record Grows (s t : Store) : Type 0 where
  pub larger : size s ≤ size t
  pub more_vars : s.vars ≤ t.vars
  pub reads : (w : Reading) → Reads w t → Reads w s
  pub keeps : (i : ℕ) (n : Node) → Stands s i n → Stands t i n

-- the later store has all that the earlier one had, and no further variable
pub record Builds (s t : Store) : Type 0 where
  pub larger : size s ≤ size t
  pub same_vars : t.vars ≡ s.vars
  pub reads : (w : Reading) → Reads w t → Reads w s
  pub keeps : (i : ℕ) (n : Node) → Stands s i n → Stands t i n

-- whatever reads the store gives the result this meaning
abbrev pub Gives : {R : Type 0} → Store → Result R AllocError → (Reading → R → Type 0) → Type 0
Gives t result P = IfOk result (λ r. (w : Reading) → Reads w t → P w r)
