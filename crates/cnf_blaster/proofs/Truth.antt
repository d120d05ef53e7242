-- Which assignments make the clauses true.
use Rattle.std.proofs.Common.{◌≡◌, ℕ, zero, suc, ◌<◌, Bool, true, false, not, ◌&&◌, ◌||◌, cond, List, [], ◌∷◌, length}
use Rattle.resolution_check.proofs.Truth.{true_from_has}
use Rattle.std.proofs.Common.{slice_get, Option, Some, None, inl, inr, refl, sym, ap, ap₂, subst, ◌∙◌, arith}
use Rattle.std.specs.List.{list_any, list_all}
use Rattle.std.specs.Bool.{beq}
use Rattle.std.proofs.lemmas.Bool.{cases_Bool, cases_lt, and_parts, and_from, false≢true, or_left, or_right, or_cases}
use Rattle.std.proofs.lemmas.Bool.{cond_both}
use Rattle.std.proofs.lemmas.List.Folds.{list_all-append}
use Rattle.std.proofs.lemmas.Option.{slice_get_within}
use Rattle.term_store.specs.declared.NodeId.{NodeId}
use Rattle.term_store.specs.declared.Node.{Node}
use Rattle.term_store.specs.declared.Node.TheVariants.{Const, Var, Not, And, Or, Xor, Ite}
use Rattle.term_store.specs.Terms.{differ}
use Rattle.resolution_check.specs.declared.log.Lit.{Lit}
use Rattle.resolution_check.specs.declared.log.Clause.{Clause}
use Rattle.resolution_check.specs.Clauses.{opposite, has}
use Rattle.std.proofs.Math.Bool.{and-true, or-false}
use Rattle.resolution_check.specs.Entries.{lit_value, clause_value, satisfies}
use Rattle.resolution_check.proofs.Literals.{alike}
use Rattle.cnf_blaster.specs.Cnf.{has_both_signs, distinct, kept, all_kept, gate_clauses, node_clauses, clauses_below}
use Rattle.cnf_blaster.specs.Cnf.{root_clauses, clauses_by, variable_of, yes}
use Rattle.cnf_blaster.specs.Laws.{has_value, IsTrueUnder}

-- the negation, as a literal's value has it
abbrev neg : Bool → Bool
neg b = cond b false true

absorbed : (a b : Bool) → (a ≡ true → b ≡ true) → b ≡ (a || b)
absorbed true b h = h refl
absorbed false b h = refl

distinct-value : (v : ℕ → Bool) (c : List Lit) → clause_value v (distinct c) ≡ clause_value v c
distinct-value v [] = refl
distinct-value v (l ∷ c) =
    cond_both (has c l) (distinct c) (l ∷ distinct c) (λ d. clause_value v d ≡ clause_value v (l ∷ c))
    (λ again. distinct-value v c ∙ absorbed (lit_value v l) (clause_value v c) (true_from_has v c l again))
    (λ new. ap (λ b. lit_value v l || b) (distinct-value v c))

one_true : (v : ℕ → Bool) (l : Lit) → lit_value v l ≡ false → lit_value v (opposite l) ≡ true
one_true v l h = flipped l.negated (v l.var) h
  where
    flipped : (n b : Bool) → cond n (cond b false true) b ≡ false → cond (not n) (cond b false true) b ≡ true
    flipped true true h = refl
    flipped true false h = sym h
    flipped false true h = sym h
    flipped false false h = refl

both_signs : (v : ℕ → Bool) (c d : List Lit) → list_any (λ l. has c (opposite l)) d ≡ true
    → (clause_value v d ≡ true → clause_value v c ≡ true) → clause_value v c ≡ true
both_signs v c [] h inside = absurd (false≢true h)
both_signs v c (l ∷ d) h inside = elim (or_cases _ _ h) [
  | inl here ↦ elim (cases_Bool (lit_value v l)) [
    | inl holds ↦ inside (or_left _ _ holds)
    | inr fails ↦ true_from_has v c (opposite l) here (one_true v l fails)
  ]
  | inr later ↦ both_signs v c d later (λ t. inside (or_right (lit_value v l) _ t))
]

kept-value : (v : ℕ → Bool) (c : List Lit) → satisfies v (kept c) ≡ clause_value v c
kept-value v c =
    cond_both (has_both_signs c) [] (record { lits = distinct c } ∷ []) (λ cs. satisfies v cs ≡ clause_value v c)
    (λ clash. sym (both_signs v c c clash (λ t. t)))
    (λ plain. and-true _ ∙ distinct-value v c)

all_kept-value : (v : ℕ → Bool) (cs : List (List Lit)) → satisfies v (all_kept cs) ≡ list_all (clause_value v) cs
all_kept-value v [] = refl
all_kept-value v (c ∷ cs) =
    list_all-append (λ (k : Clause). clause_value v k.lits) (kept c) (all_kept cs)
    ∙ ap₂ (λ a b. a && b) (kept-value v c) (all_kept-value v cs)

-- ---- the gates, by their truth tables

const-case : (b g : Bool) → ((cond (not b) (neg g) g || false) && true) ≡ beq g b
const-case true true = refl
const-case true false = refl
const-case false true = refl
const-case false false = refl

not-case : (g a : Bool) → ((neg g || (neg a || false)) && ((g || (a || false)) && true)) ≡ beq g (not a)
not-case true true = refl
not-case true false = refl
not-case false true = refl
not-case false false = refl

and-case : (g a b : Bool)
    → ((neg g || (a || false)) && ((neg g || (b || false)) && ((g || (neg a || (neg b || false))) && true)))
    ≡ beq g (a && b)
and-case true true true = refl
and-case true true false = refl
and-case true false b = refl
and-case false true true = refl
and-case false true false = refl
and-case false false b = refl

or-case : (g a b : Bool)
    → ((g || (neg a || false)) && ((g || (neg b || false)) && ((neg g || (a || (b || false))) && true)))
    ≡ beq g (a || b)
or-case true true b = refl
or-case true false true = refl
or-case true false false = refl
or-case false true b = refl
or-case false false true = refl
or-case false false false = refl

xor-case : (g a b : Bool)
    → ((neg g || (a || (b || false)))
    && ((neg g || (neg a || (neg b || false)))
    && ((g || (neg a || (b || false))) && ((g || (a || (neg b || false))) && true))))
    ≡ beq g (differ a b)
xor-case true true true = refl
xor-case true true false = refl
xor-case true false true = refl
xor-case true false false = refl
xor-case false true true = refl
xor-case false true false = refl
xor-case false false true = refl
xor-case false false false = refl

ite-case : (g c a b : Bool)
    → ((neg c || (neg a || (g || false)))
    && ((neg c || (a || (neg g || false)))
    && ((c || (neg b || (g || false))) && ((c || (b || (neg g || false))) && true))))
    ≡ beq g (cond c a b)
ite-case true true true b = refl
ite-case true true false b = refl
ite-case true false a true = refl
ite-case true false a false = refl
ite-case false true true b = refl
ite-case false true false b = refl
ite-case false false a true = refl
ite-case false false a false = refl

gate-value : (v : ℕ → Bool) (var : ℕ → ℕ) (g : ℕ) (n : Node)
    → list_all (clause_value v) (gate_clauses var g n) ≡ has_value v var g n
gate-value v var g (Const b) = const-case b (v g)
gate-value v var g (Var k) = refl
gate-value v var g (Not a) = not-case (v g) (v (var a.0))
gate-value v var g (And a b) = and-case (v g) (v (var a.0)) (v (var b.0))
gate-value v var g (Or a b) = or-case (v g) (v (var a.0)) (v (var b.0))
gate-value v var g (Xor a b) = xor-case (v g) (v (var a.0)) (v (var b.0))
gate-value v var g (Ite c a b) = ite-case (v g) (v (var c.0)) (v (var a.0)) (v (var b.0))

pub node-value : (v : ℕ → Bool) (var : ℕ → ℕ) (g : ℕ) (n : Node)
    → satisfies v (all_kept (gate_clauses var g n)) ≡ has_value v var g n
node-value v var g n = all_kept-value v (gate_clauses var g n) ∙ gate-value v var g n

-- ---- nodes and roots

roots-value : (v : ℕ → Bool) (var : ℕ → ℕ) (roots : List NodeId)
    → satisfies v (root_clauses var roots) ≡ list_all (λ r. v (var r.0)) roots
roots-value v var [] = refl
roots-value v var (r ∷ roots) =
    list_all-append (λ (k : Clause). clause_value v k.lits) (kept (yes (var r.0) ∷ [])) (root_clauses var roots)
    ∙ ap₂ (λ a b. a && b) (kept-value v (yes (var r.0) ∷ []) ∙ or-false (v (var r.0))) (roots-value v var roots)

module _ (v : ℕ → Bool) (test : ℕ → Bool) (var : ℕ → ℕ) (nodes : List Node) where
  abbrev last : ℕ → Bool → Option Node → List Clause
  last i b o = cond b (node_clauses var i o) []

  below-append : (i : ℕ)
      → satisfies v (clauses_below test var nodes (suc i))
      ≡ (satisfies v (clauses_below test var nodes i) && satisfies v (last i (test i) (slice_get nodes i)))
  below-append i =
      list_all-append (λ (k : Clause). clause_value v k.lits) (clauses_below test var nodes i)
      (last i (test i) (slice_get nodes i))

  below-true : (limit : ℕ) → satisfies v (clauses_below test var nodes limit) ≡ true → (i : ℕ) (n : Node) → i < limit
      → test i ≡ true → slice_get nodes i ≡ Some n → has_value v var (var i) n ≡ true
  below-true zero h i n below t s = absurd (omega arith)
  below-true (suc limit) h i n below t s =
      let both = and_parts _ _ (sym (below-append limit) ∙ h) in
      elim (cases_lt i limit) [
        | inl less ↦ below-true limit both.0 i n less t s
        | inr same ↦
            let e : limit ≡ i = omega arith in
            let P : ℕ → Type 0 = λ k. satisfies v (last k (test k) (slice_get nodes k)) ≡ true in
            let here : P i = subst P e both.1 in
            sym (node-value v var (var i) n) ∙ sym (ap₂ (λ b o. satisfies v (last i b o)) t s) ∙ here
      ]

  below-back : (limit : ℕ)
      → ((i : ℕ) (n : Node) → test i ≡ true → slice_get nodes i ≡ Some n → has_value v var (var i) n ≡ true)
      → satisfies v (clauses_below test var nodes limit) ≡ true
  below-back zero h = refl
  below-back (suc limit) h =
      below-append limit ∙ and_from _ _ (below-back limit h) (by_test (test limit) refl (slice_get nodes limit) refl)
    where
      by_test : (b : Bool) → test limit ≡ b → (o : Option Node) → slice_get nodes limit ≡ o
          → satisfies v (last limit b o) ≡ true
      by_test false t o s = refl
      by_test true t None s = refl
      by_test true t (Some n) s = node-value v var (var limit) n ∙ h limit n t s

pub true_under : (v test : ℕ → Bool) (nodes : List Node) (roots : List NodeId)
    → satisfies v (clauses_by test nodes roots) ≡ true → IsTrueUnder v test (variable_of test) nodes roots
true_under v test nodes roots h =
    let var = variable_of test in
    let both =
    and_parts _ _
    (sym (list_all-append (λ (k : Clause). clause_value v k.lits) (clauses_below test var nodes (length nodes))
    (root_clauses var roots)) ∙ h) in
    record {
      values = λ i n t s. below-true v test var nodes (length nodes) both.0 i n (slice_get_within nodes i n s) t s;
      roots_true = sym (roots-value v var roots) ∙ both.1;
    }

pub satisfied : (v test : ℕ → Bool) (nodes : List Node) (roots : List NodeId)
    → IsTrueUnder v test (variable_of test) nodes roots → satisfies v (clauses_by test nodes roots) ≡ true
satisfied v test nodes roots h =
    let var = variable_of test in
    list_all-append (λ (k : Clause). clause_value v k.lits) (clauses_below test var nodes (length nodes))
    (root_clauses var roots)
    ∙ and_from _ _ (below-back v test var nodes (length nodes) h.values) (roots-value v var roots ∙ h.roots_true)
