-- What the clauses of terms have to do with the terms' values: assignments of the clauses' variables and valuations of
-- the terms' variables.
use Rattle.std.specs.Prelude.{◌≡◌, ◌≢◌, ℕ, Bool, true, false, List, slice_get, slice_set, Option, None, Some}
use Rattle.std.specs.List.{list_all}
use Rattle.std.specs.Option.{option_map_or}
use Rattle.term_store.specs.declared.NodeId.{NodeId}
use Rattle.term_store.specs.declared.Node.{Node}
use Rattle.term_store.specs.declared.Node.TheVariants.{Const, Var, Not, And, Or, Xor, Ite}
use Rattle.term_store.specs.Terms.{truth, value_of}
use Rattle.resolution_check.specs.declared.log.Clause.{Clause}
use Rattle.resolution_check.specs.Entries.{satisfies}

-- whether each root is true under the valuation
abbrev pub roots_value : List Node → List NodeId → List Bool → Bool
roots_value nodes roots valuation = list_all (λ r. value_of nodes valuation r.0) roots

-- where a variable of the clauses stands for a variable of the terms, the valuation gives that one the value that the
-- assignment gives the other
abbrev pub IsDecoded : List Node → List NodeId → (ℕ → Bool) → List Bool → Type 0
IsDecoded nodes node_of v valuation = (x k : ℕ) (id : NodeId) → slice_get node_of x ≡ Some id → slice_get nodes id.0
    ≡ Some (Var k) → truth valuation k ≡ v x

-- no variable of the clauses stands for that variable of the terms
abbrev pub IsUnspoken : List Node → List NodeId → ℕ → Type 0
IsUnspoken nodes node_of k = (x : ℕ) (id : NodeId) → slice_get node_of x ≡ Some id → slice_get nodes id.0 ≢ Some (Var k)

-- the variable that the node is, if it is one
abbrev pub variable_in : Node → Option ℕ
variable_in (Const b) = None
variable_in (Var k) = Some k
variable_in (Not a) = None
variable_in (And a b) = None
variable_in (Or a b) = None
variable_in (Xor a b) = None
variable_in (Ite c a b) = None

-- the valuation with that value at the variable, if there is one
abbrev pub with_value : Option ℕ → Bool → List Bool → List Bool
with_value None b valuation = valuation
with_value (Some k) b valuation = slice_set valuation k b

-- some valuation decodes the assignment, and each that does makes every root true
pub record DecodesTrue (nodes : List Node) (roots node_of : List NodeId) (v : ℕ → Bool) : Type 0 where
  pub some : (valuation : List Bool) × IsDecoded nodes node_of v valuation
  pub all : (valuation : List Bool) → IsDecoded nodes node_of v valuation → roots_value nodes roots valuation ≡ true

-- each variable of the clauses has the value of its node
abbrev pub encoded : List Node → List NodeId → List Bool → ℕ → Bool
encoded nodes node_of valuation x = option_map_or (λ id. value_of nodes valuation id.0) (slice_get node_of x) false

-- some assignment makes every clause true
abbrev pub IsSatisfiable : List Clause → Type 0
IsSatisfiable cs = (v : ℕ → Bool) × (satisfies v cs ≡ true)

-- some valuation makes every root true
abbrev pub CanBeTrue : List Node → List NodeId → Type 0
CanBeTrue nodes roots = (valuation : List Bool) × (roots_value nodes roots valuation ≡ true)
