-- Assignments of the clauses' variables and valuations of the terms' variables.
use Rattle.std.proofs.Common.{◌≡◌, ℕ, zero, suc, ◌<◌, Bool, true, false, cond, List, [], ◌∷◌, map, slice_get, get_or}
use Rattle.mw_text.proofs.Lists.{beq-true}
use Rattle.std.proofs.Common.{Option, Some, None, inl, inr, ◌↔◌, refl, sym, ap, subst, ◌∙◌, arith, zero-add, eqb}
use Rattle.std.specs.List.{list_all, range_with_len}
use Rattle.std.specs.Option.{option_map_or}
use Rattle.std.specs.Bool.{beq}
use Rattle.std.proofs.lemmas.Bool.{cases_lt, or_right, false≢true, eqb-true, eq-eqb, cond_both, both_ways}
use Rattle.std.proofs.lemmas.Option.{slice_get_within, slice_get-get_or}
use Rattle.std.proofs.lemmas.List.FromFn.{get_or-map-range_with_len}
use Rattle.term_store.specs.declared.NodeId.{NodeId}
use Rattle.term_store.specs.declared.Node.{Node}
use Rattle.term_store.specs.declared.Node.TheVariants.{Const, Var, Not, And, Or, Xor, Ite}
use Rattle.term_store.specs.Terms.{Store, Reading, size, gate, IsSound, StandsOnce, truth, value_of, reading_of}
use Rattle.term_store.specs.Reading.{Reads}
use Rattle.term_store.proofs.Growth.{Reads-at}
use Rattle.term_store.proofs.Values.{Reads-reading_of}
use Rattle.resolution_check.specs.Entries.{satisfies}
use Rattle.cnf_blaster.specs.Cnf.{names, operands, reached, variable_of, clauses_of, nodes_of}
use Rattle.cnf_blaster.specs.Laws.{AreBelow, has_value, IsTrueUnder}
use Rattle.cnf_blaster.specs.Meaning.{roots_value, DecodesTrue, encoded, IsSatisfiable, CanBeTrue}
use Rattle.cnf_blaster.proofs.Reached.{list_all-same, first_named, operands-below, reached-root, reached-operand}
use Rattle.cnf_blaster.proofs.Reached.{members-at, members-place}
use Rattle.cnf_blaster.proofs.Truth.{true_under, satisfied}

-- ---- one node

same-beq : (a b : Bool) → a ≡ b → beq a b ≡ true
same-beq true true h = refl
same-beq true false h = absurd cc
same-beq false true h = absurd cc
same-beq false false h = refl

module _ (w : Reading) (v : ℕ → Bool) (var : ℕ → ℕ) (g : ℕ) where
  -- where a node's operands have the values of their variables, the node has that of its own
  value-from : (n : Node) → has_value v var g n ≡ true → ((k : ℕ) → n ≡ Var k → w.variable k ≡ v g)
      → ((i : ℕ) → names (operands n) i ≡ true → w.node i ≡ v (var i)) → gate w n ≡ v g
  value-from (Const b) h leaf each = sym (beq-true _ _ h)
  value-from (Var k) h leaf each = leaf k refl
  value-from (Not a) h leaf each = let p = each a.0 (first_named a []) in rw p (sym (beq-true _ _ h))
  value-from (And a b) h leaf each =
      let p = each a.0 (first_named a (b ∷ [])) in
      let q = each b.0 (or_right _ _ (first_named b [])) in rw (p, q) (sym (beq-true _ _ h))
  value-from (Or a b) h leaf each =
      let p = each a.0 (first_named a (b ∷ [])) in
      let q = each b.0 (or_right _ _ (first_named b [])) in rw (p, q) (sym (beq-true _ _ h))
  value-from (Xor a b) h leaf each =
      let p = each a.0 (first_named a (b ∷ [])) in
      let q = each b.0 (or_right _ _ (first_named b [])) in rw (p, q) (sym (beq-true _ _ h))
  value-from (Ite c a b) h leaf each =
      let o = each c.0 (first_named c (a ∷ b ∷ [])) in
      let p = each a.0 (or_right _ _ (first_named a (b ∷ []))) in
      let q = each b.0 (or_right _ _ (or_right _ _ (first_named b []))) in
      rw (o, p, q) (sym (beq-true _ _ h))

  -- and where all these have their values, the node's variable has the value of its kind
  value-to : (n : Node) → v g ≡ gate w n → ((i : ℕ) → names (operands n) i ≡ true → w.node i ≡ v (var i))
      → has_value v var g n ≡ true
  value-to (Const b) h each = same-beq _ _ h
  value-to (Var k) h each = refl
  value-to (Not a) h each = let p = each a.0 (first_named a []) in same-beq _ _ (rw p at h)
  value-to (And a b) h each =
      let p = each a.0 (first_named a (b ∷ [])) in
      let q = each b.0 (or_right _ _ (first_named b [])) in same-beq _ _ (rw (p, q) at h)
  value-to (Or a b) h each =
      let p = each a.0 (first_named a (b ∷ [])) in
      let q = each b.0 (or_right _ _ (first_named b [])) in same-beq _ _ (rw (p, q) at h)
  value-to (Xor a b) h each =
      let p = each a.0 (first_named a (b ∷ [])) in
      let q = each b.0 (or_right _ _ (first_named b [])) in same-beq _ _ (rw (p, q) at h)
  value-to (Ite c a b) h each =
      let o = each c.0 (first_named c (a ∷ b ∷ [])) in
      let p = each a.0 (or_right _ _ (first_named a (b ∷ []))) in
      let q = each b.0 (or_right _ _ (or_right _ _ (first_named b []))) in
      same-beq _ _ (rw (o, p, q) at h)

-- ---- nodes of variables

abbrev stands_for : ℕ → Option Node → Bool
stands_for k None = false
stands_for k (Some (Const b)) = false
stands_for k (Some (Var m)) = eqb m k
stands_for k (Some (Not a)) = false
stands_for k (Some (And a b)) = false
stands_for k (Some (Or a b)) = false
stands_for k (Some (Xor a b)) = false
stands_for k (Some (Ite c a b)) = false

stands_for-var : (k : ℕ) (o : Option Node) → stands_for k o ≡ true → o ≡ Some (Var k)
stands_for-var k None h = absurd (false≢true h)
stands_for-var k (Some (Const b)) h = absurd (false≢true h)
stands_for-var k (Some (Var m)) h = ap (λ x. Some (Var x)) (eqb-true m k h)
stands_for-var k (Some (Not a)) h = absurd (false≢true h)
stands_for-var k (Some (And a b)) h = absurd (false≢true h)
stands_for-var k (Some (Or a b)) h = absurd (false≢true h)
stands_for-var k (Some (Xor a b)) h = absurd (false≢true h)
stands_for-var k (Some (Ite c a b)) h = absurd (false≢true h)

-- ---- all nodes that are reached

module _ (s : Store) (roots : List NodeId) (sound : IsSound s.nodes s.vars) (below : AreBelow (size s) roots) where
  abbrev test : ℕ → Bool
  test = reached s.nodes roots

  abbrev var : ℕ → ℕ
  var = variable_of test

  -- a reached node stands at its variable
  node-at : (i : ℕ) → i < size s → test i ≡ true → slice_get (nodes_of s.nodes roots) (var i) ≡ Some (record { 0 = i })
  node-at i h t = members-at test (size s) i h t

  module _ (v : ℕ → Bool) (w : Reading) (reads : Reads w s) where
    -- the values of reached nodes are those of their variables, from the first node up
    values-same : IsTrueUnder v test var s.nodes roots
        → ((i k : ℕ) → test i ≡ true → slice_get s.nodes i ≡ Some (Var k) → w.variable k ≡ v (var i))
        → (limit i : ℕ) → i < limit → i < size s → test i ≡ true → w.node i ≡ v (var i)
    values-same holds leaf zero i h at t = absurd (omega arith)
    values-same holds leaf (suc limit) i h at t =
        let n : Node = get_or s.nodes i (Const false) in
        let e : slice_get s.nodes i ≡ Some n = slice_get-get_or s.nodes i (Const false) at in
        Reads-at w s i n reads e
        ∙ value-from w v var (var i) n (holds.values i n t e) (λ k is. leaf i k t (e ∙ ap Some is))
        (λ j named.
        let lower : j < i = operands-below i s.vars j n (sound.below i n e) named in
        values-same holds leaf limit j (omega arith) (omega arith)
        (reached-operand s.nodes s.vars roots i j n sound e t named))

    -- the other way round, each reached node's variable has the value of its kind
    values-hold : ((i : ℕ) → i < size s → test i ≡ true → w.node i ≡ v (var i)) → (i : ℕ) (n : Node) → test i ≡ true
        → slice_get s.nodes i ≡ Some n → has_value v var (var i) n ≡ true
    values-hold same i n t e =
        let at : i < size s = slice_get_within s.nodes i n e in
        value-to w v var (var i) n (sym (same i at t) ∙ Reads-at w s i n reads e)
        (λ j named.
        let lower : j < i = operands-below i s.vars j n (sound.below i n e) named in
        same j (omega arith) (reached-operand s.nodes s.vars roots i j n sound e t named))

    -- and roots have the values of their variables
    roots-same : ((i : ℕ) → i < size s → test i ≡ true → w.node i ≡ v (var i))
        → list_all (λ r. w.node r.0) roots ≡ list_all (λ r. v (var r.0)) roots
    roots-same same =
        list_all-same (λ r. w.node r.0) (λ r. v (var r.0)) roots
        (λ k r h. same r.0 (below k r h) (reached-root s.nodes roots k r h))

  -- ---- decoding and encoding

  decoded-true : (v : ℕ → Bool) (valuation : List Bool) → satisfies v (clauses_of s.nodes roots) ≡ true
      → ((i k : ℕ) → test i ≡ true → slice_get s.nodes i ≡ Some (Var k) → truth valuation k ≡ v (var i))
      → roots_value s.nodes roots valuation ≡ true
  decoded-true v valuation h leaf =
      let holds = true_under v test s.nodes roots h in
      let w : Reading = reading_of s.nodes valuation in
      let reads : Reads w s = Reads-reading_of s valuation sound in
      roots-same v w reads (λ i at t. values-same v w reads holds leaf (suc i) i (omega arith) at t) ∙ holds.roots_true

  pub encodes : (valuation : List Bool) → roots_value s.nodes roots valuation ≡ true
      → satisfies (encoded s.nodes (nodes_of s.nodes roots) valuation) (clauses_of s.nodes roots) ≡ true
  encodes valuation h =
      let v : ℕ → Bool = encoded s.nodes (nodes_of s.nodes roots) valuation in
      let w : Reading = reading_of s.nodes valuation in
      let reads : Reads w s = Reads-reading_of s valuation sound in
      let same : (i : ℕ) → i < size s → test i ≡ true → w.node i ≡ v (var i) =
      λ i at t. sym
      (ap (λ o. option_map_or (λ (id : NodeId). value_of s.nodes valuation id.0) o false) (node-at i at t)) in
      satisfied v test s.nodes roots
      (record { values = values-hold v w reads same; roots_true = sym (roots-same v w reads same) ∙ h })

  -- ---- a valuation from an assignment

  module _ (v : ℕ → Bool) where
    -- the value of the node of the k-th variable, among the nodes below the limit
    abbrev found : ℕ → ℕ → Bool
    found k zero = false
    found k (suc i) = cond (stands_for k (slice_get s.nodes i)) (v (var i)) (found k i)

    found-var : StandsOnce s.nodes → (k limit i : ℕ) → i < limit → slice_get s.nodes i ≡ Some (Var k)
        → found k limit ≡ v (var i)
    found-var once k zero i h e = absurd (omega arith)
    found-var once k (suc limit) i h e =
        cond_both (stands_for k (slice_get s.nodes limit)) (v (var limit)) (found k limit) (λ b. b ≡ v (var i))
        (λ there. ap (λ j. v (var j)) (once limit i (Var k) (stands_for-var k (slice_get s.nodes limit) there) e))
        (λ other. elim (cases_lt i limit) [
          | inl less ↦ found-var once k limit i less e
          | inr same ↦
              let q : i ≡ limit = omega arith in
              let here : stands_for k (slice_get s.nodes i) ≡ true = ap (stands_for k) e ∙ eq-eqb k k refl in
              let there : stands_for k (slice_get s.nodes limit) ≡ true =
              subst (λ j. stands_for k (slice_get s.nodes j) ≡ true) q here in
              absurd (both_ways _ other there)
        ])

    abbrev decoding : List Bool
    decoding = map (λ k. found k (size s)) (range_with_len 0 s.vars)

    decoding-var : StandsOnce s.nodes → (i k : ℕ) → slice_get s.nodes i ≡ Some (Var k) → truth decoding k ≡ v (var i)
    decoding-var once i k e =
        get_or-map-range_with_len (λ j. found j (size s)) 0 s.vars k k false (sound.below i (Var k) e) (zero-add k)
        ∙ found-var once k (size s) i (slice_get_within s.nodes i (Var k) e) e

  -- an assignment is decoded by the values of the nodes of variables, and then every root is true
  pub decodes : StandsOnce s.nodes → (v : ℕ → Bool) → satisfies v (clauses_of s.nodes roots) ≡ true
      → DecodesTrue s.nodes roots (nodes_of s.nodes roots) v
  decodes once v h = record {
    some = (decoding v, λ x k id at e. decoding-var v once id.0 k e ∙ ap v (members-place test (size s) x id at));
    all =
        λ valuation decoded. decoded-true v valuation h
        (λ i k t e. decoded (var i) k (record { 0 = i }) (node-at i (slice_get_within s.nodes i (Var k) e) t) e);
  }

  pub equal : StandsOnce s.nodes → IsSatisfiable (clauses_of s.nodes roots) ↔ CanBeTrue s.nodes roots
  equal once = (
    λ some. (decoding some.0, decoded-true some.0 (decoding some.0) some.1 (λ i k t e. decoding-var some.0 once i k e)),
    λ some. (encoded s.nodes (nodes_of s.nodes roots) some.0, encodes some.0 some.1),
  )
