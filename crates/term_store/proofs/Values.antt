-- The values of nodes under a valuation, and what readings have to do with them.
use Rattle.std.proofs.Common.{◌≡◌, ℕ, ◌+◌, ◌<◌, Bool, false, not, List, [], ◌∷◌, ◌++◌, slice_get, get_or, length, Some}
use Rattle.std.proofs.Common.{⊎_elim, refl, sym, ap, subst, ◌∙◌, arith, add-zero, zero-add, zero, suc}
use Rattle.std.proofs.lemmas.List.{get_or_append_left, length_push}
use Rattle.std.proofs.Math.Seq.{get_or-append_seam}
use Rattle.std.proofs.lemmas.Bool.{cases_lt}
use Rattle.term_store.specs.declared.Node.{Node}
use Rattle.term_store.specs.declared.Node.TheVariants.{Const, Var, Not, And, Or, Xor, Ite}
use Rattle.term_store.specs.Terms.{Store, Reading, size, gate, IsBelow, IsSound, Agrees, reading_by, values_after}
use Rattle.term_store.specs.Terms.{values_of, value_of, reading_of}
use Rattle.term_store.specs.Reading.{Reads}

-- two readings that agree below a node give it the same value
pub gate-same : (w u : Reading) (limit vars : ℕ) (n : Node) → IsBelow limit vars n
    → ((k : ℕ) → k < vars → w.variable k ≡ u.variable k) →
    ((i : ℕ) → i < limit → w.node i ≡ u.node i) → gate w n ≡ gate u n
gate-same w u limit vars (Const b) below same_vars same = refl
gate-same w u limit vars (Var k) below same_vars same = same_vars k below
gate-same w u limit vars (Not a) below same_vars same = ap not (same a.0 below)
gate-same w u limit vars (And a b) below same_vars same = let p = same a.0 below.0 in let q = same b.0 below.1 in cc
gate-same w u limit vars (Or a b) below same_vars same = let p = same a.0 below.0 in let q = same b.0 below.1 in cc
gate-same w u limit vars (Xor a b) below same_vars same = let p = same a.0 below.0 in let q = same b.0 below.1 in cc
gate-same w u limit vars (Ite c a b) below same_vars same =
    let o = same c.0 below.0 in let p = same a.0 below.1 in let q = same b.0 below.2 in cc

module _ (valuation : List Bool) where
  -- further nodes come after those so far
  pub values_after-append : (ns ms : List Node) (values : List Bool)
      → values_after valuation values (ns ++ ms) ≡ values_after valuation (values_after valuation values ns) ms
  values_after-append [] ms values = refl
  values_after-append (n ∷ ns) ms values = values_after-append ns ms _

  pub length-values_after : (ns : List Node) (values : List Bool)
      → length (values_after valuation values ns) ≡ length values + length ns
  length-values_after [] values = omega arith
  length-values_after (n ∷ ns) values =
      let next = values ++ gate (reading_by valuation values) n ∷ [] in
      omega (arith, length-values_after ns next, length_push values (gate (reading_by valuation values) n))

  -- a value that is there stays when further nodes come
  pub values_after-keeps : (ns : List Node) (values : List Bool) (i : ℕ) → i < length values
      → get_or (values_after valuation values ns) i false ≡ get_or values i false
  values_after-keeps [] values i h = refl
  values_after-keeps (n ∷ ns) values i h =
      let b = gate (reading_by valuation values) n in
      values_after-keeps ns (values ++ b ∷ []) i (omega (arith, length_push values b))
      ∙ get_or_append_left values (b ∷ []) false i h

  -- each further node has the value of its kind
  pub values_after-gate : (vars : ℕ) (ns : List Node) (values : List Bool) (i : ℕ) (n : Node) → slice_get ns i ≡ Some n
      → ((j : ℕ) (m : Node) → slice_get ns j ≡ Some m → IsBelow (length values + j) vars m)
      → get_or (values_after valuation values ns) (length values + i) false ≡ gate
      (reading_by valuation (values_after valuation values ns)) n
  values_after-gate vars [] values i m h below = absurd cc
  values_after-gate vars (n ∷ ns) values zero m h below =
      let b = gate (reading_by valuation values) n in
      let all = values_after valuation (values ++ b ∷ []) ns in
      let e : n ≡ m = cc in
      let here : IsBelow (length values) vars n =
      subst (λ k. IsBelow k vars n) (add-zero (length values)) (below zero n refl) in
      ap (λ k. get_or all k false) (add-zero (length values))
      ∙ values_after-keeps ns (values ++ b ∷ []) (length values) (omega (arith, length_push values b))
      ∙ get_or-append_seam values b [] false
      ∙ gate-same (reading_by valuation values) (reading_by valuation all) (length values) vars n here (λ k g. refl)
      (λ j g. sym (values_after-keeps (n ∷ ns) values j g))
      ∙ ap (gate (reading_by valuation all)) e
  values_after-gate vars (n ∷ ns) values (suc i) m h below =
      let b = gate (reading_by valuation values) n in
      let all = values_after valuation (values ++ b ∷ []) ns in
      let moved : (j : ℕ) → length values + suc j ≡ length (values ++ b ∷ []) + j =
      λ j. omega (arith, length_push values b) in
      ap (λ k. get_or all k false) (moved i)
      ∙ values_after-gate vars ns (values ++ b ∷ []) i m h
      (λ j k g. subst (λ l. IsBelow l vars k) (moved j) (below (suc j) k g))

  -- a reading of the nodes has the values under a valuation with the same variables
  pub values_after-agrees : (w : Reading) (vars : ℕ) (ns : List Node) (values : List Bool) → Agrees w valuation vars
      → ((j : ℕ) (m : Node) → slice_get ns j ≡ Some m → IsBelow (length values + j) vars m)
      → ((j : ℕ) (m : Node) → slice_get ns j ≡ Some m → w.node (length values + j) ≡ gate w m)
      → ((i : ℕ) → i < length values → w.node i ≡ get_or values i false)
      → (i : ℕ) → i < length values + length ns → w.node i ≡ get_or (values_after valuation values ns) i false
  values_after-agrees w vars [] values agrees below reads so_far i h = so_far i (omega arith)
  values_after-agrees w vars (n ∷ ns) values agrees below reads so_far i h =
      let b = gate (reading_by valuation values) n in
      let longer = length_push values b in
      let moved : (j : ℕ) → length values + suc j ≡ length (values ++ b ∷ []) + j = λ j. omega (arith, longer) in
      let here : IsBelow (length values) vars n =
      subst (λ k. IsBelow k vars n) (add-zero (length values)) (below zero n refl) in
      let value : w.node (length values) ≡ b = ap (λ k. w.node k) (sym (add-zero (length values))) ∙ reads zero n refl
      ∙ gate-same w (reading_by valuation values) (length values) vars n here agrees so_far in
      values_after-agrees w vars ns (values ++ b ∷ []) agrees
      (λ j k g. subst (λ l. IsBelow l vars k) (moved j) (below (suc j) k g))
      (λ j k g. ap (λ l. w.node l) (sym (moved j)) ∙ reads (suc j) k g)
      (λ j g. ⊎_elim
      (λ before. so_far j before ∙ sym (get_or_append_left values (b ∷ []) false j before))
      (λ after. let e : j ≡ length values = omega (arith, longer) in ap (λ k. w.node k) e ∙ value
      ∙ sym (get_or-append_seam values b [] false) ∙ ap (λ k. get_or (values ++ b ∷ []) k false) (sym e))
      (cases_lt j (length values)))
      i (omega (arith, longer))

-- each valuation gives a reading
pub Reads-reading_of : (s : Store) (valuation : List Bool) → IsSound s.nodes s.vars
    → Reads (reading_of s.nodes valuation) s
unfolding Reads
Reads-reading_of s valuation sound i n h =
    ap (λ k. get_or (values_of s.nodes valuation) k false) (sym (zero-add i))
    ∙ values_after-gate valuation s.vars s.nodes [] i n h
    (λ j m g. subst (λ k. IsBelow k s.vars m) (sym (zero-add j)) (sound.below j m g))

-- and each reading has the values of a valuation
pub value_of-reading : (s : Store) (w : Reading) (valuation : List Bool) → IsSound s.nodes s.vars → Reads w s
    → Agrees w valuation s.vars → (i : ℕ) → i < size s → w.node i ≡ value_of s.nodes valuation i
unfolding Reads
value_of-reading s w valuation sound reads agrees i h =
    values_after-agrees valuation w s.vars s.nodes [] agrees
    (λ j m g. subst (λ k. IsBelow k s.vars m) (sym (zero-add j)) (sound.below j m g))
    (λ j m g. ap (λ k. w.node k) (zero-add j) ∙ reads j m g)
    (λ j g. absurd (omega arith))
    i (omega arith)

-- appending nodes changes no value of an old one
pub value_of-append : (nodes more : List Node) (valuation : List Bool) (i : ℕ) → i < length nodes
    → value_of (nodes ++ more) valuation i ≡ value_of nodes valuation i
value_of-append nodes more valuation i h =
    ap (λ l. get_or l i false) (values_after-append valuation nodes more [])
    ∙ values_after-keeps valuation more (values_of nodes valuation) i
    (omega (arith, length-values_after valuation nodes []))
