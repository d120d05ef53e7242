-- What is said of clauses beside which they are.
use Rattle.std.specs.Prelude.{◌≡◌, ℕ, ◌<◌, Bool, true, false, List, slice_get, slice_index_or, Some}
use Rattle.std.specs.List.{list_all}
use Rattle.std.specs.Bool.{beq}
use Rattle.term_store.specs.Terms.{Reading, gate}
use Rattle.term_store.specs.declared.NodeId.{NodeId}
use Rattle.term_store.specs.declared.Node.{Node}
use Rattle.term_store.specs.declared.Node.TheVariants.{Const, Var, Not, And, Or, Xor, Ite}

-- the truth value of the number, where the list has the values of the numbers from 0 on
abbrev pub marked : List Bool → ℕ → Bool
marked marks i = slice_index_or marks i false

-- the number in the list of this place
abbrev pub number_at : List ℕ → ℕ → ℕ
number_at numbers i = slice_index_or numbers i 0

-- each is the number of a node of a store of this size
abbrev pub AreBelow : ℕ → List NodeId → Type 0
AreBelow limit ids = (k : ℕ) → (id : NodeId) → slice_get ids k ≡ Some id → id.0 < limit

-- the operands of the node are numbers below the limit
abbrev pub IsOver : ℕ → Node → Type 0
IsOver limit (Const b) = Unit {0}
IsOver limit (Var k) = Unit {0}
IsOver limit (Not a) = a.0 < limit
IsOver limit (And a b) = (a.0 < limit) × (b.0 < limit)
IsOver limit (Or a b) = (a.0 < limit) × (b.0 < limit)
IsOver limit (Xor a b) = (a.0 < limit) × (b.0 < limit)
IsOver limit (Ite c a b) = (c.0 < limit) × (a.0 < limit) × (b.0 < limit)

-- the reading in which each node has the value of its variable
abbrev pub by_variables : (ℕ → Bool) → (ℕ → ℕ) → Reading
by_variables v var = record { variable = λ k. false; node = λ i. v (var i) }

-- whether the variable g has the value that the node's kind has from the variables of its operands
abbrev pub has_value : (ℕ → Bool) → (ℕ → ℕ) → ℕ → Node → Bool
has_value v var g (Const b) = beq (v g) b
has_value v var g (Var k) = true
has_value v var g (Not a) = beq (v g) (gate (by_variables v var) (Not a))
has_value v var g (And a b) = beq (v g) (gate (by_variables v var) (And a b))
has_value v var g (Or a b) = beq (v g) (gate (by_variables v var) (Or a b))
has_value v var g (Xor a b) = beq (v g) (gate (by_variables v var) (Xor a b))
has_value v var g (Ite c a b) = beq (v g) (gate (by_variables v var) (Ite c a b))

-- each node that has a variable has the value of its kind from the variables of its operands, and each root is true
pub record IsTrueUnder (v : ℕ → Bool) (test : ℕ → Bool) (var : ℕ → ℕ) (nodes : List Node)
    (roots : List NodeId) : Type 0 where
  pub values : (i : ℕ) (n : Node) → test i ≡ true → slice_get nodes i ≡ Some n → has_value v var (var i) n ≡ true
  pub roots_true : list_all (λ r. v (var r.0)) roots ≡ true
