-- The clauses are proper: none is empty, none has a variable twice, and all variables are below their number.
use Rattle.std.proofs.Common.{◌≡◌, ℕ, zero, suc, ◌+◌, ◌-◌, ◌<◌, ◌≤◌, Bool, true, false, not, ◌&&◌, ◌||◌, cond, List}
use Rattle.std.proofs.Common.{[], ◌∷◌, ◌++◌, length, map, slice_get, Option, Some, None, ◌⊎◌, inl, inr, refl, sym, ap}
use Rattle.std.proofs.Common.{ap₂, ◌∙◌, arith, nat_lt, eqb, drop, get_or}
use Rattle.std.specs.BTreeSet.{BTreeSet, contains, Updates}
use Rattle.std.specs.Ordering.{nat_cmp, is_eq}
use Rattle.std.proofs.lemmas.List.{drop_more}
use Rattle.std.proofs.lemmas.Bool.Decides.{nat_tests}
use Rattle.std.specs.List.{list_any, list_all}
use Rattle.std.specs.Bool.{beq}
use Rattle.std.proofs.lemmas.Bool.{and_parts, and_from, false≢true, or_left, or_right, or_cases, or_parts, or_from}
use Rattle.std.proofs.lemmas.Bool.{cond_both, eqb-true, eq-eqb, lt-ltb, not_from_false, false_from_ne_true, both_ways}
use Rattle.std.proofs.lemmas.List.Folds.{list_all-append, list_all-map}
use Rattle.std.proofs.lemmas.Option.{slice_get_within}
use Rattle.term_store.specs.declared.NodeId.{NodeId}
use Rattle.term_store.specs.declared.Node.{Node}
use Rattle.term_store.specs.declared.Node.TheVariants.{Const, Var, Not, And, Or, Xor, Ite}
use Rattle.term_store.specs.Terms.{IsSound}
use Rattle.resolution_check.specs.declared.log.Lit.{Lit}
use Rattle.resolution_check.specs.declared.log.Clause.{Clause}
use Rattle.resolution_check.specs.Clauses.{opposite, has}
use Rattle.resolution_check.specs.Entries.{is_empty}
use Rattle.resolution_check.specs.Earned.{has_var, vars_differ}
use Rattle.cnf_blaster.specs.declared.Cnf.{Cnf}
use Rattle.cnf_blaster.specs.Cnf.{names, operands, reached, variable_of, has_both_signs, distinct, kept, all_kept}
use Rattle.cnf_blaster.specs.Cnf.{gate_clauses, node_clauses, clauses_below, root_clauses, clauses_of, nodes_of, yes}
use Rattle.cnf_blaster.specs.Laws.{AreBelow}
use Rattle.cnf_blaster.specs.Proper.{is_within, is_fit, IsProper}
use Rattle.cnf_blaster.proofs.Reached.{list_all-from, first_named, operands-below, reached-root, reached-operand}
use Rattle.cnf_blaster.proofs.Reached.{variable-within}

-- ---- one clause

has_var-distinct : (c : List Lit) (x : ℕ) → has_var (distinct c) x ≡ true → has_var c x ≡ true
has_var-distinct [] x h = h
has_var-distinct (l ∷ c) x h =
    cond_both (has c l) (distinct c) (l ∷ distinct c) (λ d. has_var d x ≡ true → has_var (l ∷ c) x ≡ true)
    (λ again there. or_right (eqb l.var x) (has_var c x) (has_var-distinct c x there))
    (λ new there. elim (or_cases (eqb l.var x) (has_var (distinct c) x) there) [
      | inl here ↦ or_left (eqb l.var x)
          (has_var c x) here
      | inr later ↦ or_right (eqb l.var x) (has_var c x) (has_var-distinct c x later)
    ])
    h

all-distinct : (p : Lit → Bool) (c : List Lit) → list_all p c ≡ true → list_all p (distinct c) ≡ true
all-distinct p [] h = h
all-distinct p (l ∷ c) h =
    let both = and_parts _ _ h in
    cond_both (has c l) (distinct c) (l ∷ distinct c) (λ d. list_all p d ≡ true)
    (λ again. all-distinct p c both.1)
    (λ new. and_from _ _ both.0 (all-distinct p c both.1))

filled-distinct : (c : List Lit) → not (is_empty c) ≡ true → not (is_empty (distinct c)) ≡ true
filled-distinct [] h = h
filled-distinct (l ∷ []) h = refl
filled-distinct (l ∷ k ∷ c) h =
    cond_both (has (k ∷ c) l) (distinct (k ∷ c)) (l ∷ distinct (k ∷ c)) (λ d. not (is_empty d) ≡ true)
    (λ again. filled-distinct (k ∷ c) refl)
    (λ new. refl)

signs : (m n : Bool) → (beq m n ≡ true) ⊎ (beq (not m) n ≡ true)
signs true true = inl refl
signs true false = inr refl
signs false true = inr refl
signs false false = inl refl

-- a variable stands as the literal or as its opposite
has_var-cases : (c : List Lit) (l : Lit) → has_var c l.var ≡ true → (has c l ≡ true) ⊎ (has c (opposite l) ≡ true)
has_var-cases [] l h = absurd (false≢true h)
has_var-cases (k ∷ c) l h = elim (or_cases _ _ h) [
  | inl here ↦
      let e = eq-eqb l.var k.var (sym (eqb-true k.var l.var here)) in
      elim (signs l.negated k.negated) [
        | inl same ↦ inl (or_left _ _ (and_from _ _ e same))
        | inr other ↦ inr
            (or_left _ _ (and_from _ _ e other))
      ]
  | inr later ↦ elim (has_var-cases c l later) [
    | inl same ↦ inl (or_right _ _ same)
    | inr other ↦ inr
        (or_right _ _ other)
  ]
]

fewer : (l : Lit) (c d : List Lit) → list_any (λ k. has (l ∷ c) (opposite k)) d ≡ false
    → list_any (λ k. has c (opposite k)) d ≡ false
fewer l c [] h = h
fewer l c (k ∷ d) h = let both = or_parts _ _ h in or_from _ _ (or_parts _ _ both.0).1 (fewer l c d both.1)

once-distinct : (c : List Lit) → has_both_signs c ≡ false → vars_differ (distinct c) ≡ true
once-distinct [] h = refl
once-distinct (l ∷ c) h =
    let both = or_parts _ _ h in
    let no_other : has c (opposite l) ≡ false = (or_parts _ _ both.0).1 in
    let rest : vars_differ (distinct c) ≡ true = once-distinct c (fewer l c c both.1) in
    cond_both (has c l) (distinct c) (l ∷ distinct c) (λ d. vars_differ d ≡ true)
    (λ again. rest)
    (λ new. and_from _ _ (not_from_false _
    (false_from_ne_true _
    (λ there. elim (has_var-cases c l
    (has_var-distinct c l.var there)) [ inl same ↦ both_ways _ new same | inr other ↦ both_ways _ no_other other ])))
    rest)

-- ---- which variables stand in a clause, from its last literal on

is_eq-nat_cmp : (x y : ℕ) → is_eq (nat_cmp x y) ≡ eqb x y
is_eq-nat_cmp x y = grind (arith, nat_tests)

module _ (lits : List Lit) (i : ℕ) (d : Lit) (old new : BTreeSet ℕ) (above : 0 < i) (within : i ≤ length lits)
    (seen : (x : ℕ) → contains nat_cmp old x ≡ has_var (drop i lits) x) where
  abbrev this : ℕ
  this = (get_or lits (i - 1) d).var

  one_back : get_or lits (i - 1) d ∷ drop i lits ≡ drop (i - 1) lits
  one_back =
      let next : i - 1 + 1 ≡ i = omega arith in
      ap (λ k. get_or lits (i - 1) d ∷ drop k lits) (sym next) ∙ sym (drop_more lits (i - 1) d (omega arith))

  -- one literal more: the set gains its variable
  pub seen_step : Updates nat_cmp old new this true → (x : ℕ) → contains nat_cmp new x ≡ has_var (drop (i - 1) lits) x
  seen_step updates x =
      updates.0 x
      ∙ ap₂ (λ a b. cond a true b) (is_eq-nat_cmp this x) (seen x)
      ∙ or-cond (eqb this x) (has_var (drop i lits) x)
      ∙ ap (λ c. has_var c x) one_back
    where
      or-cond : (a b : Bool) → cond a true b ≡ (a || b)
      or-cond true b = refl
      or-cond false b = refl

  -- and the variables still differ where it is a new one
  pub distinct_step : (added differ : Bool) → added ≡ not (contains nat_cmp old this)
      → differ ≡ vars_differ (drop i lits) → (added && differ) ≡ vars_differ (drop (i - 1) lits)
  distinct_step added differ is_new so_far =
      ap₂ (λ a b. a && b) (is_new ∙ ap not (seen this)) so_far ∙ ap vars_differ one_back

-- ---- clauses that are kept

abbrev all_good : ℕ → List Clause → Type 0
all_good vars cs = list_all (λ (k : Clause). is_fit vars k.lits) cs ≡ true

all_good-append : (vars : ℕ) (cs ds : List Clause) → all_good vars cs → all_good vars ds → all_good vars (cs ++ ds)
all_good-append vars cs ds first second =
    list_all-append (λ (k : Clause). is_fit vars k.lits) cs ds ∙ and_from _ _ first second

kept-good : (vars : ℕ) (c : List Lit) → is_within vars c ≡ true → all_good vars (kept c)
kept-good vars c h =
    let both = and_parts _ _ h in
    cond_both (has_both_signs c) [] (record { lits = distinct c } ∷ []) (all_good vars)
    (λ clash. refl)
    (λ plain. and_from _ _
    (and_from _ _ (and_from _ _ (filled-distinct c both.0) (all-distinct (λ l. nat_lt l.var vars) c both.1))
    (once-distinct c plain)) refl)

all_kept-good : (vars : ℕ) (cs : List (List Lit)) → list_all (is_within vars) cs ≡ true → all_good vars (all_kept cs)
all_kept-good vars [] h = refl
all_kept-good vars (c ∷ cs) h =
    let both = and_parts _ _ h in
    all_good-append vars (kept c) (all_kept cs) (kept-good vars c both.0) (all_kept-good vars cs both.1)

-- ---- gates

gate-fits : (vars : ℕ) (var : ℕ → ℕ) (g : ℕ) (n : Node) → nat_lt g vars ≡ true
    → ((i : ℕ) → names (operands n) i ≡ true → nat_lt (var i) vars ≡ true)
    → list_all (is_within vars) (gate_clauses var g n) ≡ true
gate-fits vars var g (Const b) h each = rw h refl
gate-fits vars var g (Var k) h each = refl
gate-fits vars var g (Not a) h each = let p = each a.0 (first_named a []) in rw (h, p) refl
gate-fits vars var g (And a b) h each =
    let p = each a.0 (first_named a (b ∷ [])) in let q = each b.0 (or_right _ _ (first_named b [])) in rw (h, p, q) refl
gate-fits vars var g (Or a b) h each =
    let p = each a.0 (first_named a (b ∷ [])) in let q = each b.0 (or_right _ _ (first_named b [])) in rw (h, p, q) refl
gate-fits vars var g (Xor a b) h each =
    let p = each a.0 (first_named a (b ∷ [])) in let q = each b.0 (or_right _ _ (first_named b [])) in rw (h, p, q) refl
gate-fits vars var g (Ite c a b) h each =
    let o = each c.0 (first_named c (a ∷ b ∷ [])) in
    let p = each a.0 (or_right _ _ (first_named a (b ∷ []))) in
    let q = each b.0 (or_right _ _ (or_right _ _ (first_named b []))) in
    rw (h, o, p, q) refl

-- ---- nodes and roots

module _ (vars : ℕ) (test : ℕ → Bool) (var : ℕ → ℕ) (nodes : List Node) where
  abbrev last : ℕ → Bool → Option Node → List Clause
  last i b o = cond b (node_clauses var i o) []

  below-good : (limit : ℕ)
      → ((i : ℕ) (n : Node) → test i ≡ true → slice_get nodes i ≡ Some n
      → list_all (is_within vars) (gate_clauses var (var i) n) ≡ true)
      → all_good vars (clauses_below test var nodes limit)
  below-good zero each = refl
  below-good (suc limit) each =
      all_good-append vars (clauses_below test var nodes limit) (last limit (test limit) (slice_get nodes limit))
      (below-good limit each) (by_test (test limit) refl (slice_get nodes limit) refl)
    where
      by_test : (b : Bool) → test limit ≡ b → (o : Option Node) → slice_get nodes limit ≡ o
          → all_good vars (last limit b o)
      by_test false t o s = refl
      by_test true t None s = refl
      by_test true t (Some n) s = all_kept-good vars (gate_clauses var (var limit) n) (each limit n t s)

roots-good : (vars : ℕ) (var : ℕ → ℕ) (roots : List NodeId)
    → ((k : ℕ) (r : NodeId) → slice_get roots k ≡ Some r → nat_lt (var r.0) vars ≡ true)
    → all_good vars (root_clauses var roots)
roots-good vars var roots each =
    let lits : NodeId → List Lit = λ r. yes (var r.0) ∷ [] in
    all_kept-good vars (map lits roots)
    (list_all-map (is_within vars) lits roots
    ∙ list_all-from (λ r. is_within vars (lits r)) roots (λ k r h. and_from _ _ (each k r h) refl))

clauses-good : (nodes : List Node) (vars : ℕ) (roots : List NodeId) → IsSound nodes vars → AreBelow (length nodes) roots
    → all_good (length (nodes_of nodes roots)) (clauses_of nodes roots)
clauses-good nodes vars roots sound below =
    let test : ℕ → Bool = reached nodes roots in
    let var : ℕ → ℕ = variable_of test in
    let count = length (nodes_of nodes roots) in
    let within : (i : ℕ) → i < length nodes → test i ≡ true → nat_lt (var i) count ≡ true =
    λ i h t. lt-ltb (var i) count (variable-within test (length nodes) i h t) in
    all_good-append count (clauses_below test var nodes (length nodes)) (root_clauses var roots)
    (below-good count test var nodes (length nodes) (λ i n t s.
    let at : i < length nodes = slice_get_within nodes i n s in
    gate-fits count var (var i) n (within i at t) (λ j named.
    let lower : j < i = operands-below i vars j n (sound.below i n s) named in
    within j (omega arith) (reached-operand nodes vars roots i j n sound s t named))))
    (roots-good count var roots (λ k r h. within r.0 (below k r h) (reached-root nodes roots k r h)))

-- a test that follows from one that all items pass
pub weaker : {X : Type 0} (p q : X → Bool) (xs : List X) → ((x : X) → p x ≡ true → q x ≡ true) → list_all p xs ≡ true
    → list_all q xs ≡ true
weaker p q [] each h = refl
weaker p q (x ∷ xs) each h = let both = and_parts _ _ h in and_from _ _ (each x both.0) (weaker p q xs each both.1)

-- clauses of which each is fit are proper, and the other way round
pub proper-fit : (cnf : Cnf) → list_all (λ (k : Clause). is_fit cnf.vars k.lits) cnf.clauses ≡ true → IsProper cnf
proper-fit cnf all =
    let whole : Clause → Bool = λ k. is_fit cnf.vars k.lits in
    record {
      filled = weaker whole (λ k. not (is_empty k.lits)) cnf.clauses (λ k h. (and_parts _ _ (and_parts _ _ h).0).0) all;
      once = weaker whole (λ k. vars_differ k.lits) cnf.clauses (λ k h. (and_parts _ _ h).1) all;
      below =
          weaker whole (λ k. list_all (λ l. nat_lt l.var cnf.vars) k.lits) cnf.clauses
          (λ k h. (and_parts _ _ (and_parts _ _ h).0).1) all;
    }

fit_from_parts : (vars : ℕ) (cs : List Clause) → list_all (λ (k : Clause). not (is_empty k.lits)) cs ≡ true
    → list_all (λ (k : Clause). vars_differ k.lits) cs ≡ true → list_all
    (λ (k : Clause). list_all (λ l. nat_lt l.var vars) k.lits) cs ≡ true
    → list_all (λ (k : Clause). is_fit vars k.lits) cs ≡ true
fit_from_parts vars [] filled once below = refl
fit_from_parts vars (k ∷ cs) filled once below =
    let f = and_parts _ _ filled in
    let o = and_parts _ _ once in
    let b = and_parts _ _ below in
    and_from _ _ (and_from _ _ (and_from _ _ f.0 b.0) o.0) (fit_from_parts vars cs f.1 o.1 b.1)

pub fit-proper : (cnf : Cnf) → IsProper cnf → list_all (λ (k : Clause). is_fit cnf.vars k.lits) cnf.clauses ≡ true
fit-proper cnf h = fit_from_parts cnf.vars cnf.clauses h.filled h.once h.below

pub proper : (nodes : List Node) (vars : ℕ) (roots : List NodeId) (cnf : Cnf) → IsSound nodes vars
    → AreBelow (length nodes) roots
    → cnf.clauses ≡ clauses_of nodes roots → cnf.vars ≡ length (nodes_of nodes roots) → IsProper cnf
proper nodes vars roots cnf sound below clauses count =
    proper-fit cnf (rw (clauses, count) (clauses-good nodes vars roots sound below))
