-- Nodes of one store over operands of another.
use Rattle.std.specs.Prelude.{ℕ, List, get_or}
use Rattle.term_store.specs.declared.NodeId.{NodeId}
use Rattle.term_store.specs.declared.Node.{Node}
use Rattle.term_store.specs.declared.Node.TheVariants.{Const, Var, Not, And, Or, Xor, Ite}
use Rattle.term_store.specs.Terms.{Reading, at}

-- where an operand stands, by the places of the nodes so far
abbrev pub place_of : List NodeId → NodeId → NodeId
place_of places a = get_or places a.0 (record { 0 = 0 })

-- the same node over these
abbrev pub moved : List NodeId → Node → Node
moved places (Const b) = Const b
moved places (Var k) = Var k
moved places (Not a) = Not (place_of places a)
moved places (And a b) = And (place_of places a) (place_of places b)
moved places (Or a b) = Or (place_of places a) (place_of places b)
moved places (Xor a b) = Xor (place_of places a) (place_of places b)
moved places (Ite c a b) = Ite (place_of places c) (place_of places a) (place_of places b)

-- what a reading gives the nodes that stand at these places, by their numbers
abbrev pub behind : List NodeId → Reading → Reading
behind places w = record { variable = w.variable; node = λ i. at w (get_or places i (record { 0 = 0 })) }
