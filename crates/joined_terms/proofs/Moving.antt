-- Nodes over operands of another store, one after another.
use Rattle.std.proofs.Common.{◌≡◌, ◌⊎◌, ℕ, ◌+◌, ◌<◌, ◌≤◌, ◌&&◌, ◌||◌, not, Bool, if◌then◌else◌, List, [], ◌∷◌, ◌++◌, Some, get_or, length, inl, inr}
use Rattle.std.proofs.Common.{refl, sym, ap, subst, ◌∙◌, arith}
use Rattle.std.specs.Prelude.{slice_get}
use Rattle.std.proofs.lemmas.Bool.{cases_lt}
use Rattle.std.proofs.lemmas.List.{get_or_append_left}
use Rattle.std.proofs.Math.Seq.{get_or-append_seam}
use Rattle.term_store.specs.declared.Node.{Node}
use Rattle.term_store.specs.declared.Node.TheVariants.{Const, Var, Not, And, Or, Xor, Ite}
use Rattle.term_store.specs.declared.NodeId.{NodeId}
use Rattle.term_store.specs.Terms.{IsBelow, IsSound, Reading, Store, at, differ, gate}
use Rattle.term_arith.specs.Bits.{ids_end}
use Rattle.term_arith.proofs.NumberLemmas.{ids_end_at}
use Rattle.joined_terms.specs.Joining.{behind, moved, place_of}

-- ---- one node

place_below : (places : List NodeId) (a : NodeId) (many top : ℕ) → length places ≡ many → ids_end places ≤ top →
    a.0 < many → (place_of places a).0 < top
place_below places a many top long within below =
    let place = ids_end_at places a.0 (record { 0 = 0 }) (omega (arith, below, long)) in omega (arith, place, within)

-- moved, it stands above its operands
pub moved_below : (places : List NodeId) (many top vars more : ℕ) (node : Node) → length places ≡ many →
    ids_end places ≤ top → vars ≤ more → IsBelow many vars node → IsBelow top more (moved places node)
moved_below places many top vars more (Const b) long within fits below = tt
moved_below places many top vars more (Var k) long within fits below = omega (arith, below, fits)
moved_below places many top vars more (Not a) long within fits below = place_below places a many top long within below
moved_below places many top vars more (And a b) long within fits below =
    (place_below places a many top long within below.0, place_below places b many top long within below.1)
moved_below places many top vars more (Or a b) long within fits below =
    (place_below places a many top long within below.0, place_below places b many top long within below.1)
moved_below places many top vars more (Xor a b) long within fits below =
    (place_below places a many top long within below.0, place_below places b many top long within below.1)
moved_below places many top vars more (Ite c a b) long within fits below = (
  place_below places c many top long within below.0,
  place_below places a many top long within below.1,
  place_below places b many top long within below.2,
)

-- it has the value that the node has by its places
pub moved_gate : (places : List NodeId) (w : Reading) (node : Node) → gate w (moved places node) ≡ gate (behind places w) node
moved_gate places w (Const b) = refl
moved_gate places w (Var k) = refl
moved_gate places w (Not a) = refl
moved_gate places w (And a b) = refl
moved_gate places w (Or a b) = refl
moved_gate places w (Xor a b) = refl
moved_gate places w (Ite c a b) = refl

-- ---- one place more

same_at : (places : List NodeId) (place : NodeId) (w : Reading) (i : ℕ) → i < length places →
    at w (get_or places i (record { 0 = 0 })) ≡ at w (get_or (places ++ place ∷ []) i (record { 0 = 0 }))
same_at places place w i below =
    ap (at w) (sym (get_or_append_left places (place ∷ []) (record { 0 = 0 }) i below))

-- a node over places so far keeps its value
same_gate : (places : List NodeId) (place : NodeId) (w : Reading) (many vars : ℕ) (node : Node) → length places ≡ many →
    IsBelow many vars node → gate (behind places w) node ≡ gate (behind (places ++ place ∷ []) w) node
same_gate places place w many vars (Const b) long below = refl
same_gate places place w many vars (Var k) long below = refl
same_gate places place w many vars (Not a) long below =
    ap not (same_at places place w a.0 (omega (arith, below, long)))
same_gate places place w many vars (And a b) long below =
    let first = below.0 in let second = below.1 in
    λ i. same_at places place w a.0 (omega (arith, first, long)) i && same_at places place w b.0 (omega (arith, second, long)) i
same_gate places place w many vars (Or a b) long below =
    let first = below.0 in let second = below.1 in
    λ i. same_at places place w a.0 (omega (arith, first, long)) i || same_at places place w b.0 (omega (arith, second, long)) i
same_gate places place w many vars (Xor a b) long below =
    let first = below.0 in let second = below.1 in
    λ i. differ (same_at places place w a.0 (omega (arith, first, long)) i)
    (same_at places place w b.0 (omega (arith, second, long)) i)
same_gate places place w many vars (Ite c a b) long below =
    let test = below.0 in let first = below.1 in let second = below.2 in
    λ i. if same_at places place w c.0 (omega (arith, test, long)) i
    then same_at places place w a.0 (omega (arith, first, long)) i
    else same_at places place w b.0 (omega (arith, second, long)) i

-- each of so many nodes has, by its place, the value of its kind
abbrev pub AreRead : Store → List NodeId → ℕ → Reading → Type 0
AreRead from places many w =
    (i : ℕ) (node : Node) → i < many → slice_get from.nodes i ≡ Some node →
    (behind places w).node i ≡ gate (behind places w) node

below_more : (low high vars : ℕ) (node : Node) → low ≤ high → IsBelow low vars node → IsBelow high vars node
below_more low high vars (Const b) order below = tt
below_more low high vars (Var k) order below = below
below_more low high vars (Not a) order below = omega (arith, below, order)
below_more low high vars (And a b) order below =
    let first = below.0 in let second = below.1 in (omega (arith, first, order), omega (arith, second, order))
below_more low high vars (Or a b) order below =
    let first = below.0 in let second = below.1 in (omega (arith, first, order), omega (arith, second, order))
below_more low high vars (Xor a b) order below =
    let first = below.0 in let second = below.1 in (omega (arith, first, order), omega (arith, second, order))
below_more low high vars (Ite c a b) order below =
    let test = below.0 in let first = below.1 in let second = below.2 in
    (omega (arith, test, order), omega (arith, first, order), omega (arith, second, order))

-- one node more
pub read_more : (from : Store) (places : List NodeId) (place : NodeId) (many : ℕ) (w : Reading) →
    IsSound from.nodes from.vars → length places ≡ many → AreRead from places many w →
    ((node : Node) → slice_get from.nodes many ≡ Some node → at w place ≡ gate (behind places w) node) →
    AreRead from (places ++ place ∷ []) (many + 1) w
read_more from places place many w sound long so_far here i node less there = by (cases_lt i many)
  where
    stands : IsBelow i from.vars node
    stands = sound.below i node there

    kept : i ≤ many → gate (behind places w) node ≡ gate (behind (places ++ place ∷ []) w) node
    kept order = same_gate places place w many from.vars node long (below_more i many from.vars node order stands)

    by : (i < many) ⊎ (many ≤ i) → (behind (places ++ place ∷ []) w).node i ≡ gate (behind (places ++ place ∷ []) w) node
    by (inl before) =
        sym (same_at places place w i (omega (arith, before, long))) ∙ so_far i node before there
        ∙ kept (omega (arith, before))
    by (inr past) =
        let same : i ≡ many = omega (arith, less, past) in
        let last : i ≡ length places = omega (arith, same, long) in
        ap (λ k. at w (get_or (places ++ place ∷ []) k (record { 0 = 0 }))) last
        ∙ ap (at w) (get_or-append_seam places place [] (record { 0 = 0 }))
        ∙ here node (subst (λ k. slice_get from.nodes k ≡ Some node) same there)
        ∙ kept (omega (arith, same))

pub read_none : (from : Store) (places : List NodeId) (w : Reading) → AreRead from places 0 w
read_none from places w i node less there = absurd (omega (arith, less))
