-- The clauses of terms: which nodes have a variable, which clauses say what a node is, and which clauses make roots
-- true.
use Rattle.std.specs.Prelude.{ℕ, zero, suc, ◌+◌, ◌==◌, Bool, true, false, not, ◌&&◌, ◌||◌, if◌then◌else◌, List, []}
use Rattle.std.specs.Prelude.{◌∷◌, ◌++◌, length, map, Option, Some, None, slice_get}
use Rattle.std.specs.List.{list_any}
use Rattle.term_store.specs.declared.NodeId.{NodeId}
use Rattle.term_store.specs.declared.Node.{Node}
use Rattle.term_store.specs.declared.Node.TheVariants.{Const, Var, Not, And, Or, Xor, Ite}
use Rattle.resolution_check.specs.declared.log.Lit.{Lit}
use Rattle.resolution_check.specs.declared.log.Clause.{Clause}
use Rattle.resolution_check.specs.Clauses.{opposite, has}

-- ---- which nodes have a variable

-- whether the number is one of these
abbrev pub names : List NodeId → ℕ → Bool
names ids i = list_any (λ id. id.0 == i) ids

-- the nodes that a node's gate is over
abbrev pub operands : Node → List NodeId
operands (Const b) = []
operands (Var k) = []
operands (Not a) = a ∷ []
operands (And a b) = a ∷ b ∷ []
operands (Or a b) = a ∷ b ∷ []
operands (Xor a b) = a ∷ b ∷ []
operands (Ite c a b) = c ∷ a ∷ b ∷ []

-- Whether the number is among the first ones, or is reached from them through operands of these nodes, of which the
-- first has this number. The first can be reached only through those after it, since operands are below their node.
abbrev pub reached_from : (ℕ → Bool) → ℕ → List Node → ℕ → Bool
reached_from first number [] i = first i
reached_from first number (n ∷ ns) i = reached_from first (number + 1) ns i
    || (reached_from first (number + 1) ns number && names (operands n) i)

-- whether a root reaches the node of this number through operands
abbrev pub reached : List Node → List NodeId → ℕ → Bool
reached nodes roots = reached_from (names roots) 0 nodes

-- the numbers below the limit of which the test is true, in ascending order
abbrev pub members : (ℕ → Bool) → ℕ → List NodeId
members test zero = []
members test (suc i) = members test i ++ (if test i then record { 0 = i } ∷ [] else [])

-- the variable of a node is how many nodes below it have one
abbrev pub variable_of : (ℕ → Bool) → ℕ → ℕ
variable_of test i = length (members test i)

-- ---- clauses

-- whether a variable stands in the clause in both signs
abbrev pub has_both_signs : List Lit → Bool
has_both_signs c = list_any (λ l. has c (opposite l)) c

-- the literals, of which one that repeats is dropped
abbrev pub distinct : List Lit → List Lit
distinct [] = []
distinct (l ∷ ls) = if has ls l then distinct ls else l ∷ distinct ls

-- the clause without repetitions, or nothing where a variable stands in both signs
abbrev pub kept : List Lit → List Clause
kept c = if has_both_signs c then [] else record { lits = distinct c } ∷ []

abbrev pub all_kept : List (List Lit) → List Clause
all_kept [] = []
all_kept (c ∷ cs) = kept c ++ all_kept cs

-- a variable, and its negation
abbrev pub yes : ℕ → Lit
yes x = record { var = x; negated = false }

abbrev pub no : ℕ → Lit
no x = record { var = x; negated = true }

-- the clauses that say that the variable g is: not a
abbrev pub not_clauses : (g a : ℕ) → List (List Lit)
not_clauses g a =
    (no g ∷ no a ∷ [])
    ∷ (yes g ∷ yes a ∷ [])
    ∷ []

-- a and b
abbrev pub and_clauses : (g a b : ℕ) → List (List Lit)
and_clauses g a b =
    (no g ∷ yes a ∷ [])
    ∷ (no g ∷ yes b ∷ [])
    ∷ (yes g ∷ no a ∷ no b ∷ [])
    ∷ []

-- a or b
abbrev pub or_clauses : (g a b : ℕ) → List (List Lit)
or_clauses g a b =
    (yes g ∷ no a ∷ [])
    ∷ (yes g ∷ no b ∷ [])
    ∷ (no g ∷ yes a ∷ yes b ∷ [])
    ∷ []

-- exactly one of a and b
abbrev pub xor_clauses : (g a b : ℕ) → List (List Lit)
xor_clauses g a b =
    (no g ∷ yes a ∷ yes b ∷ [])
    ∷ (no g ∷ no a ∷ no b ∷ [])
    ∷ (yes g ∷ no a ∷ yes b ∷ [])
    ∷ (yes g ∷ yes a ∷ no b ∷ [])
    ∷ []

-- a where c is true, else b
abbrev pub ite_clauses : (g c a b : ℕ) → List (List Lit)
ite_clauses g c a b =
    (no c ∷ no a ∷ yes g ∷ [])
    ∷ (no c ∷ yes a ∷ no g ∷ [])
    ∷ (yes c ∷ no b ∷ yes g ∷ [])
    ∷ (yes c ∷ yes b ∷ no g ∷ [])
    ∷ []

-- the clauses that say that the variable g has the value of the node, where `var` gives the variables of its operands
abbrev pub gate_clauses : (ℕ → ℕ) → ℕ → Node → List (List Lit)
gate_clauses var g (Const b) = (record { var = g; negated = not b } ∷ []) ∷ []
gate_clauses var g (Var k) = []
gate_clauses var g (Not a) = not_clauses g (var a.0)
gate_clauses var g (And a b) = and_clauses g (var a.0) (var b.0)
gate_clauses var g (Or a b) = or_clauses g (var a.0) (var b.0)
gate_clauses var g (Xor a b) = xor_clauses g (var a.0) (var b.0)
gate_clauses var g (Ite c a b) = ite_clauses g (var c.0) (var a.0) (var b.0)

-- the clauses of one node
abbrev pub node_clauses : (ℕ → ℕ) → ℕ → Option Node → List Clause
node_clauses var i None = []
node_clauses var i (Some n) = all_kept (gate_clauses var (var i) n)

-- the clauses of the nodes below the limit that have a variable, in ascending order of nodes
abbrev pub clauses_below : (ℕ → Bool) → (ℕ → ℕ) → List Node → ℕ → List Clause
clauses_below test var nodes zero = []
clauses_below test var nodes (suc i) = clauses_below test var nodes i
    ++ (if test i then node_clauses var i (slice_get nodes i) else [])

-- one clause for each root
abbrev pub root_clauses : (ℕ → ℕ) → List NodeId → List Clause
root_clauses var roots = all_kept (map (λ r. yes (var r.0) ∷ []) roots)

-- the clauses of nodes and roots, where the test says which nodes have a variable
abbrev pub clauses_by : (ℕ → Bool) → List Node → List NodeId → List Clause
clauses_by test nodes roots = clauses_below test (variable_of test) nodes (length nodes)
    ++ root_clauses (variable_of test) roots

-- the clauses of nodes and roots
abbrev pub clauses_of : List Node → List NodeId → List Clause
clauses_of nodes roots = clauses_by (reached nodes roots) nodes roots

-- the nodes that have variables, in the order of their variables
abbrev pub nodes_of : List Node → List NodeId → List NodeId
nodes_of nodes roots = members (reached nodes roots) (length nodes)
