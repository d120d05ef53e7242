-- Which nodes are reached, and which variables they have.
use Rattle.std.proofs.Common.{◌≡◌, ℕ, zero, suc, ◌+◌, ◌<◌, Bool, true, false, cond, List, [], ◌∷◌, ◌++◌, slice_get}
use Rattle.std.proofs.Common.{Some, inl, inr, refl, sym, ap, subst, ◌∙◌, arith, add-zero, zero-add, length-append}
use Rattle.std.proofs.lemmas.List.{append-nil}
use Rattle.std.specs.List.{list_all}
use Rattle.std.proofs.lemmas.Bool.{cases_lt, and_parts, and_from, false≢true, or_left, or_right, or_cases, eqb-true}
use Rattle.std.proofs.lemmas.Bool.{eq-eqb}
use Rattle.std.proofs.lemmas.Option.{slice_get_within, slice_get-get_or, get_or_from_slice_get}
use Rattle.std.proofs.lemmas.List.{get_or_append_left}
use Rattle.term_store.specs.declared.NodeId.{NodeId}
use Rattle.term_store.specs.declared.Node.{Node}
use Rattle.term_store.specs.declared.Node.TheVariants.{Const, Var, Not, And, Or, Xor, Ite}
use Rattle.term_store.specs.Terms.{IsBelow, IsSound}
use Rattle.term_store.proofs.Growth.{slice_get_last, push_cases}
use Rattle.cnf_blaster.specs.Cnf.{names, operands, reached, reached_from, members, variable_of}

-- ---- lists

pub list_all-from : {X : Type 0} (p : X → Bool) (xs : List X)
    → ((k : ℕ) (x : X) → slice_get xs k ≡ Some x → p x ≡ true) → list_all p xs ≡ true
list_all-from p [] each = refl
list_all-from p (x ∷ xs) each = and_from _ _ (each zero x refl) (list_all-from p xs (λ k y h. each (suc k) y h))

pub list_all-same : {X : Type 0} (p q : X → Bool) (xs : List X)
    → ((k : ℕ) (x : X) → slice_get xs k ≡ Some x → p x ≡ q x) → list_all p xs ≡ list_all q xs
list_all-same p q [] each = refl
list_all-same p q (x ∷ xs) each =
    let here = each zero x refl in let later = list_all-same p q xs (λ k y h. each (suc k) y h) in cc

slice_get_front : {X : Type 0} (xs ys : List X) (x : X) (i : ℕ) → slice_get xs i ≡ Some x
    → slice_get (xs ++ ys) i ≡ Some x
slice_get_front xs ys x i h =
    let within = slice_get_within xs i x h in
    slice_get-get_or (xs ++ ys) i x (omega (arith, length-append xs ys))
    ∙ ap Some (get_or_append_left xs ys x i within ∙ get_or_from_slice_get xs i x x h)

-- ---- operands

pub named_at : (ids : List NodeId) (k : ℕ) (id : NodeId) → slice_get ids k ≡ Some id → names ids id.0 ≡ true
named_at [] k id h = absurd cc
named_at (x ∷ ids) zero id h = let e : x ≡ id = cc in or_left _ _ (eq-eqb x.0 id.0 (ap (λ (n : NodeId). n.0) e))
named_at (x ∷ ids) (suc k) id h = or_right _ _ (named_at ids k id h)

pub first_named : (a : NodeId) (ids : List NodeId) → names (a ∷ ids) a.0 ≡ true
first_named a ids = named_at (a ∷ ids) zero a refl

below_first : (limit i : ℕ) (a : NodeId) (ids : List NodeId) → a.0 < limit → (names ids i ≡ true → i < limit)
    → names (a ∷ ids) i ≡ true → i < limit
below_first limit i a ids below rest h =
    elim (or_cases _ _ h) [ inl here ↦ let e : a.0 ≡ i = eqb-true a.0 i here in omega arith | inr later ↦ rest later ]

pub operands-below : (limit vars i : ℕ) (n : Node) → IsBelow limit vars n → names (operands n) i ≡ true → i < limit
operands-below l v i (Const b) below h = absurd (false≢true h)
operands-below l v i (Var k) below h = absurd (false≢true h)
operands-below l v i (Not a) below h = below_first l i a [] below (λ f. absurd (false≢true f)) h
operands-below l v i (And a b) below h =
    below_first l i a (b ∷ []) below.0 (below_first l i b [] below.1 (λ f. absurd (false≢true f))) h
operands-below l v i (Or a b) below h =
    below_first l i a (b ∷ []) below.0 (below_first l i b [] below.1 (λ f. absurd (false≢true f))) h
operands-below l v i (Xor a b) below h =
    below_first l i a (b ∷ []) below.0 (below_first l i b [] below.1 (λ f. absurd (false≢true f))) h
operands-below l v i (Ite c a b) below h =
    below_first l i c (a ∷ b ∷ []) below.0
    (below_first l i a (b ∷ []) below.1 (below_first l i b [] below.2 (λ f. absurd (false≢true f)))) h

-- ---- reached nodes

reached_from-first : (first : ℕ → Bool) (number : ℕ) (ns : List Node) (i : ℕ) → first i ≡ true
    → reached_from first number ns i ≡ true
reached_from-first first number [] i h = h
reached_from-first first number (n ∷ ns) i h = or_left _ _ (reached_from-first first (number + 1) ns i h)

reached_from-operand : (first : ℕ → Bool) (number vars : ℕ) (ns : List Node) (i j : ℕ) (n : Node)
    → ((k : ℕ) (m : Node) → slice_get ns k ≡ Some m → IsBelow (number + k) vars m) → slice_get ns i ≡ Some n
    → reached_from first number ns (number + i) ≡ true → names
    (operands n) j ≡ true → reached_from first number ns j ≡ true
reached_from-operand first number vars [] i j n below s h named = absurd cc
reached_from-operand first number vars (m ∷ ns) zero j n below s h named =
    let later : ℕ → Bool = reached_from first (number + 1) ns in
    let e : n ≡ m = cc in
    let at : reached_from first number (m ∷ ns) number ≡ true =
    subst (λ k. reached_from first number (m ∷ ns) k ≡ true) (add-zero number) h in
    let here : later number ≡ true = elim (or_cases _ _ at) [ inl a ↦ a | inr b ↦ (and_parts _ _ b).0 ] in
    or_right _ _ (and_from _ _ here (subst (λ k. names (operands k) j ≡ true) e named))
reached_from-operand first number vars (m ∷ ns) (suc i) j n below s h named =
    let later : ℕ → Bool = reached_from first (number + 1) ns in
    let moved : (k : ℕ) → number + suc k ≡ number + 1 + k = λ k. omega arith in
    elim (or_cases _ _ h) [
      | inl a ↦ or_left _ _
          (reached_from-operand first (number + 1) vars ns i j n
          (λ k o g. subst (λ l. IsBelow l vars o) (moved k) (below (suc k) o g)) s
          (subst (λ k. later k ≡ true) (moved i) a) named)
      | inr b ↦
          let here : IsBelow number vars m = subst (λ l. IsBelow l vars m) (add-zero number) (below zero m refl) in
          let itself : names (operands m) (number + suc i) ≡ true =
          (and_parts (later number) (names (operands m) (number + suc i)) b).1 in
          let lower : number + suc i < number = operands-below number vars (number + suc i) m here itself in
          absurd (omega arith)
    ]

-- roots are reached
pub reached-root : (nodes : List Node) (roots : List NodeId) (k : ℕ) (r : NodeId) → slice_get roots k ≡ Some r
    → reached nodes roots r.0 ≡ true
reached-root nodes roots k r h = reached_from-first (names roots) 0 nodes r.0 (named_at roots k r h)

-- and so are operands of what is reached
pub reached-operand : (nodes : List Node) (vars : ℕ) (roots : List NodeId) (i j : ℕ) (n : Node) → IsSound nodes vars
    → slice_get nodes i ≡ Some n
    → reached nodes roots i ≡ true → names (operands n) j ≡ true → reached nodes roots j ≡ true
reached-operand nodes vars roots i j n sound s h named =
    reached_from-operand (names roots) 0 vars nodes i j n
    (λ k m g. subst (λ l. IsBelow l vars m) (sym (zero-add k)) (sound.below k m g)) s
    (subst (λ k. reached nodes roots k ≡ true) (sym (zero-add i)) h) named

-- ---- variables

module _ (test : ℕ → Bool) where
  abbrev entry : ℕ → List NodeId
  entry i = cond (test i) (record { 0 = i } ∷ []) []

  entry-true : (i : ℕ) → test i ≡ true → entry i ≡ record { 0 = i } ∷ []
  entry-true i t = rw t refl

  -- what has a variable stands at it
  pub members-at : (limit i : ℕ) → i < limit → test i ≡ true
      → slice_get (members test limit) (variable_of test i) ≡ Some (record { 0 = i })
  members-at zero i h t = absurd (omega arith)
  members-at (suc limit) i h t = elim (cases_lt i limit) [
    | inl less ↦ slice_get_front (members test limit) (entry limit) (record { 0 = i }) (variable_of test i)
        (members-at limit i less t)
    | inr same ↦
        let e : i ≡ limit = omega arith in
        let P : ℕ → Type 0 = λ k. slice_get (members test (suc k)) (variable_of test i) ≡ Some (record { 0 = i }) in
        let here : P i = ap (λ es. slice_get (members test i ++ es) (variable_of test i)) (entry-true i t)
        ∙ slice_get_last (members test i) (record { 0 = i }) in
        subst P e here
  ]

  -- variables are below the number of those that have one
  pub variable-within : (limit i : ℕ) → i < limit → test i ≡ true → variable_of test i < variable_of test limit
  variable-within limit i h t =
      slice_get_within (members test limit) (variable_of test i) (record { 0 = i }) (members-at limit i h t)

  -- and nothing else stands there
  pub members-place : (limit x : ℕ) (id : NodeId) → slice_get (members test limit) x ≡ Some id
      → variable_of test id.0 ≡ x
  members-place zero x id at = absurd cc
  members-place (suc i) x id at = by (test i) (members-place i x id) at
    where
      by : (b : Bool) → (slice_get (members test i) x ≡ Some id → variable_of test id.0 ≡ x)
          → slice_get (members test i ++ cond b (record { 0 = i } ∷ []) []) x ≡ Some id → variable_of test id.0 ≡ x
      by true before at = elim (push_cases (members test i) (record { 0 = i }) id x at) [
        | inl there ↦ before there
        | inr last ↦ ap (λ (n : NodeId). variable_of test n.0) last.1 ∙ sym last.0
      ]
      by false before at = before (rw append-nil at at)
