-- Values of the terms' variables, from one variable of the clauses after another.
use Rattle.std.proofs.Common.{◌≡◌, ◌≢◌, ℕ, zero, suc, ◌+◌, ◌<◌, ◌≤◌, Bool, true, false, cond, List, [], ◌∷◌, ◌++◌}
use Rattle.std.proofs.Common.{length, slice_get, get_or, set, replicate, Option, Some, None, inl, inr, refl, sym, ap}
use Rattle.std.proofs.Common.{arith, subst, ◌∙◌, IfSome, length-append, append-nil}
use Rattle.std.proofs.lemmas.Bool.{cases_lt, false≢true}
use Rattle.std.proofs.lemmas.List.{get_or-set_same, get_or-set_other}
use Rattle.std.proofs.lemmas.Option.{slice_get-get_or}
use Rattle.mw_text.proofs.Lists.{all_at}
use Rattle.term_store.specs.declared.NodeId.{NodeId}
use Rattle.term_store.specs.declared.Node.{Node}
use Rattle.term_store.specs.declared.Node.TheVariants.{Const, Var, Not, And, Or, Xor, Ite}
use Rattle.term_store.specs.Terms.{IsSound, StandsOnce, Store, truth}
use Rattle.term_store.proofs.Growth.{push_cases}
use Rattle.resolution_check.specs.Entries.{satisfies}
use Rattle.cnf_blaster.specs.Cnf.{clauses_of, members, nodes_of, reached, variable_of}
use Rattle.cnf_blaster.specs.Laws.{AreBelow}
use Rattle.cnf_blaster.specs.Meaning.{IsDecoded, IsUnspoken, roots_value, variable_in, with_value}
use Rattle.cnf_blaster.proofs.Reached.{members-place}
use Rattle.cnf_blaster.proofs.Truth.{true_under}
use Rattle.cnf_blaster.proofs.Valuations.{decodes}

-- ---- nodes that have a variable

-- what has a variable is below the limit
pub members-below : (test : ℕ → Bool) (limit x : ℕ) (id : NodeId) → slice_get (members test limit) x ≡ Some id
    → id.0 < limit
members-below test zero x id at = absurd cc
members-below test (suc i) x id at = by (test i) (members-below test i x id) at
  where
    by : (b : Bool) → (slice_get (members test i) x ≡ Some id → id.0 < i)
        → slice_get (members test i ++ cond b (record { 0 = i } ∷ []) []) x ≡ Some id → id.0 < suc i
    by true before at = elim (push_cases (members test i) (record { 0 = i }) id x at) [
      | inl there ↦ let h : id.0 < i = before there in omega arith
      | inr last ↦ let e : id.0 ≡ i = ap (λ (n : NodeId). n.0) last.1 in omega arith
    ]
    by false before at = let h : id.0 < i = before (rw append-nil at at) in omega arith

-- of nodes further up no fewer have a variable
variables-most : (test : ℕ → Bool) (limit i : ℕ) → limit ≤ i → variable_of test limit ≤ variable_of test i
variables-most test limit zero h = let e : limit ≡ 0 = omega arith in rw e (omega arith)
variables-most test limit (suc i) h = elim (cases_lt i limit) [
  | inl less ↦ let e : limit ≡ suc i = omega arith in rw e (omega arith)
  | inr past ↦
      let before : variable_of test limit ≤ variable_of test i = variables-most test limit i (omega arith) in
      omega (arith, length-append (members test i) (cond (test i) (record { 0 = i } ∷ []) []))
]

truth-within : (values : List Bool) (i : ℕ) → truth values i ≡ true → i < length values
truth-within [] i h = absurd (false≢true h)
truth-within (b ∷ values) zero h = omega arith
truth-within (b ∷ values) (suc i) h = let rest = truth-within values i h in omega arith

-- where values, one for each variable, satisfy the clauses, every root is a node
pub roots-below : (nodes : List Node) (roots : List NodeId) (values : List Bool)
    → length values ≡ length (nodes_of nodes roots) → satisfies (truth values) (clauses_of nodes roots) ≡ true
    → AreBelow (length nodes) roots
roots-below nodes roots values same h k r at =
    let test = reached nodes roots in
    let many : length values ≡ variable_of test (length nodes) = same in
    let holds = true_under (truth values) test nodes roots h in
    let within : variable_of test r.0 < length values = truth-within values (variable_of test r.0)
    (all_at (λ (id : NodeId). truth values (variable_of test id.0)) roots k r holds.roots_true at) in
    elim (cases_lt r.0 (length nodes)) [
      | inl less ↦ less
      | inr past ↦
          let most : variable_of test (length nodes) ≤ variable_of test r.0 =
          variables-most test (length nodes) r.0 past in absurd (omega arith)
    ]

-- ---- one variable more

is-variable : (node : Node) (k : ℕ) → variable_in node ≡ Some k → node ≡ Var k
is-variable (Const b) k h = absurd cc
is-variable (Var m) k h = cc
is-variable (Not a) k h = absurd cc
is-variable (And a b) k h = absurd cc
is-variable (Or a b) k h = absurd cc
is-variable (Xor a b) k h = absurd cc
is-variable (Ite c a b) k h = absurd cc

-- the valuation has the values of the first so many variables of the clauses, and is false where none speaks of it
pub record IsSoFar (nodes : List Node) (node_of : List NodeId) (v : ℕ → Bool) (count : ℕ)
    (valuation : List Bool) : Type 0 where
  pub decoded : (x k : ℕ) (id : NodeId) → x < count → slice_get node_of x ≡ Some id
      → slice_get nodes id.0 ≡ Some (Var k) → truth valuation k ≡ v x
  pub others : (k : ℕ) → IsUnspoken nodes node_of k → truth valuation k ≡ false

module _ (nodes : List Node) (roots : List NodeId) (v : ℕ → Bool) (once : StandsOnce nodes) where
  abbrev placed : List NodeId
  placed = nodes_of nodes roots

  -- no node has two variables
  one-place : (x y : ℕ) (a b : NodeId) → slice_get placed x ≡ Some a → slice_get placed y ≡ Some b → a.0 ≡ b.0
      → x ≡ y
  one-place x y a b here there same =
      sym (members-place (reached nodes roots) (length nodes) x a here)
      ∙ ap (variable_of (reached nodes roots)) same
      ∙ members-place (reached nodes roots) (length nodes) y b there

  module _ (x : ℕ) (id : NodeId) (node : Node) (old : List Bool) (here : slice_get placed x ≡ Some id)
      (stands : slice_get nodes id.0 ≡ Some node) (before : IsSoFar nodes placed v x old) where
    same-node : (y m : ℕ) (other : NodeId) → y ≡ x → slice_get placed y ≡ Some other
        → slice_get nodes other.0 ≡ Some (Var m) → node ≡ Var m
    same-node y m other e at is =
        let p : slice_get placed x ≡ Some other = subst (λ z. slice_get placed z ≡ Some other) e at in
        let q : id ≡ other = cc in
        let s : slice_get nodes id.0 ≡ Some (Var m) =
        subst (λ (z : NodeId). slice_get nodes z.0 ≡ Some (Var m)) (sym q) is in cc

    none-more : variable_in node ≡ None → IsSoFar nodes placed v (x + 1) old
    none-more none = record {
      decoded = λ y m other h at is. elim (cases_lt y x) [
        | inl less ↦ before.decoded y m other less at is
        | inr past ↦
            let e = same-node y m other (omega arith) at is in
            let s : variable_in node ≡ Some m = ap variable_in e in absurd cc
      ];
      others = before.others;
    }

    some-more : (k : ℕ) → variable_in node ≡ Some k → k < length old
        → IsSoFar nodes placed v (x + 1) (set old k (v x))
    some-more k is within =
        let stood : slice_get nodes id.0 ≡ Some (Var k) = stands ∙ ap Some (is-variable node k is) in
        record {
          decoded = λ y m other h at there. elim (cases_lt y x) [
            | inl less ↦
                let apart : m ≢ k = λ e.
                let twice : slice_get nodes other.0 ≡ Some (Var k) = there ∙ ap (λ j. Some (Var j)) e in
                let same : y ≡ x = one-place y x other id at here (once other.0 id.0 (Var k) twice stood) in
                omega arith in
                get_or-set_other old k m (v x) false apart ∙ before.decoded y m other less at there
            | inr past ↦
                let e : y ≡ x = omega arith in
                let s : variable_in node ≡ Some m = ap variable_in (same-node y m other e at there) in
                let q : m ≡ k = cc in
                ap (truth (set old k (v x))) q ∙ get_or-set_same old k (v x) false within ∙ ap v (sym e)
          ];
          others =
              λ m unspoken.
              let apart : m ≢ k = λ e. unspoken x id here (stood ∙ ap (λ j. Some (Var j)) (sym e)) in
              get_or-set_other old k m (v x) false apart ∙ before.others m unspoken;
        }

    -- the value of one more
    pub more : (variable : Option ℕ) → variable ≡ variable_in node → IfSome variable (λ k. k < length old)
        → IsSoFar nodes placed v (x + 1) (with_value variable (v x) old)
    more None is within = none-more (sym is)
    more (Some k) is within = some-more k (sym is) within

pub none_false : (count k : ℕ) → truth (replicate count false) k ≡ false
none_false zero k = refl
none_false (suc count) zero = refl
none_false (suc count) (suc k) = none_false count k

pub none_yet : (nodes : List Node) (node_of : List NodeId) (v : ℕ → Bool) (valuation : List Bool)
    → ((k : ℕ) → truth valuation k ≡ false) → IsSoFar nodes node_of v 0 valuation
none_yet nodes node_of v valuation none = record {
  decoded = λ x k id h at is. absurd (omega (arith, h));
  others = λ k unspoken. none k;
}

-- the value of one more, where the list is known to be that of the variables' nodes
pub one_more : (nodes : List Node) (roots node_of : List NodeId) (v : ℕ → Bool) (x : ℕ) (old : List Bool)
    (variable : Option ℕ) → StandsOnce nodes → node_of ≡ nodes_of nodes roots → x < length node_of
    → (get_or node_of x (record { 0 = 0 })).0 < length nodes
    → ((node : Node) → slice_get nodes (get_or node_of x (record { 0 = 0 })).0 ≡ Some node
    → variable ≡ variable_in node)
    → IfSome variable (λ k. k < length old) → IsSoFar nodes node_of v x old
    → IsSoFar nodes node_of v (x + 1) (with_value variable (v x) old)
one_more nodes roots node_of v x old variable once is within below names fits before =
    let id : NodeId = get_or node_of x (record { 0 = 0 }) in
    let node : Node = get_or nodes id.0 (Const false) in
    let stands : slice_get nodes id.0 ≡ Some node = slice_get-get_or nodes id.0 (Const false) below in
    subst (λ ids. slice_get ids x ≡ Some id → IsSoFar nodes ids v x old
    → IsSoFar nodes ids v (x + 1) (with_value variable (v x) old)) (sym is)
    (λ here so_far. more nodes roots v once x id node old here stands so_far variable (names node stands) fits)
    (slice_get-get_or node_of x (record { 0 = 0 }) within) before

-- each of these nodes is one of the store
pub node_below : (nodes : List Node) (roots node_of : List NodeId) (x : ℕ) → node_of ≡ nodes_of nodes roots
    → x < length node_of → (get_or node_of x (record { 0 = 0 })).0 < length nodes
node_below nodes roots node_of x is within =
    members-below (reached nodes roots) (length nodes) x (get_or node_of x (record { 0 = 0 }))
    (subst (λ ids. slice_get ids x ≡ Some (get_or node_of x (record { 0 = 0 }))) is
    (slice_get-get_or node_of x (record { 0 = 0 }) within))

-- where the values satisfy the clauses every root is true under what they are decoded to
pub decoded_roots : (s : Store) (roots node_of : List NodeId) (values valuation : List Bool) → IsSound s.nodes s.vars
    → StandsOnce s.nodes → node_of ≡ nodes_of s.nodes roots → length values ≡ length node_of
    → IsDecoded s.nodes node_of (truth values) valuation
    → satisfies (truth values) (clauses_of s.nodes roots) ≡ true → roots_value s.nodes roots valuation ≡ true
decoded_roots s roots node_of values valuation sound once is as_many decoded h =
    let below = roots-below s.nodes roots values (as_many ∙ ap length is) h in
    (decodes s roots sound below once (truth values) h).all valuation
    (subst (λ ids. IsDecoded s.nodes ids (truth values) valuation) is decoded)
