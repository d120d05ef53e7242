-- Terms over Boolean variables: what a store of nodes is, and the value of each node under a valuation.
use Rattle.std.specs.Prelude.{◌≡◌, ℕ, ◌<◌, ◌≤◌, Bool, true, false, not, ◌&&◌, ◌||◌, if◌then◌else◌, List, [], ◌∷◌, ◌++◌}
use Rattle.std.specs.Prelude.{length, slice_get, Some, Contains, ◌⊎◌, slice_index_or}
use Rattle.term_store.specs.declared.NodeId.{NodeId}
use Rattle.term_store.specs.declared.Node.{Node}
use Rattle.term_store.specs.declared.Node.TheVariants.{Const, Var, Not, And, Or, Xor, Ite}

-- what contracts see of `Terms`: the nodes, each at its own number, and how many variables there are
pub record Store : Type 0 where
  pub nodes : List Node
  pub vars : ℕ

-- how many nodes there are, which is the number of the next one
abbrev pub size : Store → ℕ
size s = length s.nodes

-- a node's operands are numbers below `limit`, and its variable is below `vars`
abbrev pub IsBelow : (limit vars : ℕ) → Node → Type 0
IsBelow limit vars (Const b) = Unit {0}
IsBelow limit vars (Var k) = k < vars
IsBelow limit vars (Not a) = a.0 < limit
IsBelow limit vars (And a b) = (a.0 < limit) × (b.0 < limit)
IsBelow limit vars (Or a b) = (a.0 < limit) × (b.0 < limit)
IsBelow limit vars (Xor a b) = (a.0 < limit) × (b.0 < limit)
IsBelow limit vars (Ite c a b) = (c.0 < limit) × (a.0 < limit) × (b.0 < limit)

-- each node stands above its operands, and there are at most 2^63 variables
pub record IsSound (nodes : List Node) (vars : ℕ) : Type 0 where
  pub below : (i : ℕ) (n : Node) → slice_get nodes i ≡ Some n → IsBelow i vars n
  pub few : vars ≤ 9223372036854775808

-- no node stands at two numbers
abbrev pub StandsOnce : List Node → Type 0
StandsOnce nodes = (i j : ℕ) (n : Node) → slice_get nodes i ≡ Some n → slice_get nodes j ≡ Some n → i ≡ j

-- the nodes after one is put in: a node that is there changes nothing, and any other goes last
abbrev pub Puts : List Node → Node → List Node → Type 0
Puts old n new = (Contains old n × (new ≡ old)) ⊎ ((Contains old n → ⊥) × (new ≡ old ++ n ∷ []))

-- true of exactly one
abbrev pub differ : Bool → Bool → Bool
differ true b = not b
differ false b = b

-- A reading gives a truth value to each variable and to each node's number.
pub record Reading : Type 0 where
  pub variable : ℕ → Bool
  pub node : ℕ → Bool

-- the value that a reading gives to a node's number
abbrev pub at : Reading → NodeId → Bool
at w id = w.node id.0

-- the value of a node's kind, from the values of its operands
abbrev pub gate : Reading → Node → Bool
gate w (Const b) = b
gate w (Var k) = w.variable k
gate w (Not a) = not (at w a)
gate w (And a b) = at w a && at w b
gate w (Or a b) = at w a || at w b
gate w (Xor a b) = differ (at w a) (at w b)
gate w (Ite c a b) = if at w c then at w a else at w b

-- A valuation is a list of truth values, one for each variable. Further members are not looked at.
abbrev pub truth : List Bool → ℕ → Bool
truth valuation k = slice_index_or valuation k false

-- the reading by a valuation and by the values of the nodes so far
abbrev pub reading_by : List Bool → List Bool → Reading
reading_by valuation values = record { variable = truth valuation; node = λ i. slice_index_or values i false }

-- the values of the nodes so far and then of further nodes, each that of its kind
abbrev pub values_after : List Bool → List Bool → List Node → List Bool
values_after valuation values [] = values
values_after valuation values (n ∷ ns) = values_after valuation (values ++ gate (reading_by valuation values) n ∷ []) ns

-- the values of all nodes under a valuation, in the order of their numbers
abbrev pub values_of : List Node → List Bool → List Bool
values_of nodes valuation = values_after valuation [] nodes

-- the value of the node of a number
abbrev pub value_of : List Node → List Bool → ℕ → Bool
value_of nodes valuation i = slice_index_or (values_of nodes valuation) i false

-- the reading that a valuation gives: each node has its value
abbrev pub reading_of : List Node → List Bool → Reading
reading_of nodes valuation = reading_by valuation (values_of nodes valuation)

-- the reading and the valuation give each variable the same value
abbrev pub Agrees : Reading → List Bool → ℕ → Type 0
Agrees w valuation vars = (k : ℕ) → k < vars → w.variable k ≡ truth valuation k
