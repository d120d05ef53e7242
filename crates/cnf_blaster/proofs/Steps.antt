-- Each definition over one item more.
use Rattle.std.proofs.Common.{◌≡◌, ℕ, zero, suc, ◌+◌, ◌<◌, ◌≤◌, Bool, true, false, ◌&&◌, ◌||◌, List, [], ◌∷◌, ◌++◌}
use Rattle.std.proofs.Common.{length, map, take, drop, get_or, replicate, slice_get, Some, refl, sym, ap, ap₂, subst}
use Rattle.std.proofs.Common.{◌∙◌, arith, add-one, append_assoc, append-nil, drop-cons}
use Rattle.std.proofs.lemmas.Option.{get_or_from_slice_get, slice_get_within, slice_get-get_or}
use Rattle.std.proofs.lemmas.List.{take_more, map-append}
use Rattle.std.proofs.Math.Bool.{or-false}
use Rattle.std.proofs.Math.Path.{fun_ext}
use Rattle.term_store.specs.declared.NodeId.{NodeId}
use Rattle.term_store.specs.declared.Node.{Node}
use Rattle.term_store.specs.declared.Node.TheVariants.{Const, Var, Not, And, Or, Xor, Ite}
use Rattle.term_store.specs.Terms.{IsBelow}
use Rattle.resolution_check.specs.declared.log.Lit.{Lit}
use Rattle.resolution_check.specs.declared.log.Clause.{Clause}
use Rattle.cnf_blaster.specs.Cnf.{names, operands, reached, reached_from, kept, all_kept, gate_clauses, clauses_below}
use Rattle.cnf_blaster.specs.Cnf.{root_clauses, yes}
use Rattle.cnf_blaster.specs.Laws.{marked, IsOver}

-- ---- operands

pub over_from_below : (limit vars more : ℕ) (n : Node) → limit ≤ more → IsBelow limit vars n → IsOver more n
over_from_below l v m (Const b) h p = tt
over_from_below l v m (Var k) h p = tt
over_from_below l v m (Not a) h p = omega arith
over_from_below l v m (And a b) h p = (omega arith, omega arith)
over_from_below l v m (Or a b) h p = (omega arith, omega arith)
over_from_below l v m (Xor a b) h p = (omega arith, omega arith)
over_from_below l v m (Ite c a b) h p = (omega arith, omega arith, omega arith)

pub gate_clauses-same : (f g : ℕ → ℕ) (x limit : ℕ) (n : Node) → IsOver limit n → ((i : ℕ) → i < limit → f i ≡ g i)
    → gate_clauses f x n ≡ gate_clauses g x n
gate_clauses-same f g x limit (Const b) h same = refl
gate_clauses-same f g x limit (Var k) h same = refl
gate_clauses-same f g x limit (Not a) h same = let p = same a.0 h in rw p refl
gate_clauses-same f g x limit (And a b) h same = let p = same a.0 h.0 in let q = same b.0 h.1 in rw (p, q) refl
gate_clauses-same f g x limit (Or a b) h same = let p = same a.0 h.0 in let q = same b.0 h.1 in rw (p, q) refl
gate_clauses-same f g x limit (Xor a b) h same = let p = same a.0 h.0 in let q = same b.0 h.1 in rw (p, q) refl
gate_clauses-same f g x limit (Ite c a b) h same =
    let o = same c.0 h.0 in let p = same a.0 h.1 in let q = same b.0 h.2 in rw (o, p, q) refl

-- ---- reached nodes

pub drop_at : {X : Type 0} (xs : List X) (i : ℕ) (x : X) → slice_get xs i ≡ Some x → drop i xs ≡ x ∷ drop (i + 1) xs
drop_at xs i x h =
    drop-cons xs i x (slice_get_within xs i x h)
    ∙ ap₂ (λ y k. y ∷ drop k xs) (get_or_from_slice_get xs i x x h) (sym (add-one i))

pub reached_from-then : (first : ℕ → Bool) (nodes : List Node) (k : ℕ) (n : Node) → slice_get nodes k ≡ Some n
    → reached_from first (k + 1) (drop (k + 1) nodes) k ≡ true
    → (i : ℕ) → reached_from first k (drop k nodes) i ≡
    (reached_from first (k + 1) (drop (k + 1) nodes) i || names (operands n) i)
reached_from-then first nodes k n h t i =
    ap (λ ns. reached_from first k ns i) (drop_at nodes k n h)
    ∙ ap (λ b. reached_from first (k + 1) (drop (k + 1) nodes) i || (b && names (operands n) i)) t

pub reached_from-else : (first : ℕ → Bool) (nodes : List Node) (k : ℕ) (n : Node) → slice_get nodes k ≡ Some n
    → reached_from first (k + 1) (drop (k + 1) nodes) k ≡ false
    → (i : ℕ) → reached_from first k (drop k nodes) i ≡ reached_from first (k + 1) (drop (k + 1) nodes) i
reached_from-else first nodes k n h t i =
    ap (λ ns. reached_from first k ns i) (drop_at nodes k n h)
    ∙ ap (λ b. reached_from first (k + 1) (drop (k + 1) nodes) i || (b && names (operands n) i)) t ∙ or-false _

pub marks-then : (first old new : ℕ → Bool) (nodes : List Node) (k m : ℕ) (n : Node) → k + 1 ≡ m
    → slice_get nodes k ≡ Some n
    → ((i : ℕ) → old i ≡ reached_from first m (drop m nodes) i) → old k ≡ true
    → ((i : ℕ) → new i ≡ (old i || names (operands n) i)) → (i : ℕ) → new i ≡ reached_from first k (drop k nodes) i
marks-then first old new nodes k m n e h so_far t step i =
    let P : ℕ → Type 0 = λ l. (j : ℕ) → old j ≡ reached_from first l (drop l nodes) j in
    let known : P (k + 1) = subst P (sym e) so_far in
    step i ∙ ap (λ b. b || names (operands n) i) (known i)
    ∙ sym (reached_from-then first nodes k n h (sym (known k) ∙ t) i)

pub marks-else : (first old : ℕ → Bool) (nodes : List Node) (k m : ℕ) → k + 1 ≡ m → m ≤ length nodes
    → ((i : ℕ) → old i ≡ reached_from first m (drop m nodes) i) → old k ≡ false
    → (i : ℕ) → old i ≡ reached_from first k (drop k nodes) i
marks-else first old nodes k m e h so_far t i =
    let P : ℕ → Type 0 = λ l. (j : ℕ) → old j ≡ reached_from first l (drop l nodes) j in
    let known : P (k + 1) = subst P (sym e) so_far in
    known i
    ∙ sym
    (reached_from-else first nodes k _ (slice_get-get_or nodes k (Const false) (omega arith)) (sym (known k) ∙ t) i)

-- ---- clauses

pub all_kept-append : (cs ds : List (List Lit)) → all_kept (cs ++ ds) ≡ all_kept cs ++ all_kept ds
all_kept-append [] ds = refl
all_kept-append (c ∷ cs) ds =
    ap (λ r. kept c ++ r) (all_kept-append cs ds) ∙ sym (append_assoc (kept c) (all_kept cs) (all_kept ds))

pub clauses_below-then : (test : ℕ → Bool) (var : ℕ → ℕ) (nodes : List Node) (i : ℕ) (n : Node)
    → slice_get nodes i ≡ Some n → test i ≡ true
    → clauses_below test var nodes (i + 1) ≡ clauses_below test var nodes i ++ all_kept (gate_clauses var (var i) n)
clauses_below-then test var nodes i n h t = rw (add-one i, t, h) refl

pub clauses_below-else : (test : ℕ → Bool) (var : ℕ → ℕ) (nodes : List Node) (i : ℕ) → test i ≡ false
    → clauses_below test var nodes (i + 1) ≡ clauses_below test var nodes i
clauses_below-else test var nodes i t = rw (add-one i, t) (append-nil _)

pub nodes-then : (test : ℕ → Bool) (var num : ℕ → ℕ) (nodes : List Node) (i : ℕ) (n : Node)
    (start old new : List Clause)
    → slice_get nodes i ≡ Some n → test i ≡ true → IsOver (length nodes) n →
    ((j : ℕ) → j < length nodes → num j ≡ var j)
    → old ≡ start ++ clauses_below test var nodes i → new ≡ old ++ all_kept (gate_clauses num (num i) n)
    → new ≡ start ++ clauses_below test var nodes (i + 1)
nodes-then test var num nodes i n start old new h t over same e step =
    let g : gate_clauses num (num i) n
    ≡ gate_clauses var (var i) n = ap (λ x. gate_clauses num x n) (same i (slice_get_within nodes i n h))
    ∙ gate_clauses-same num var (var i) (length nodes) n over same in
    step ∙ ap₂ (λ a b. a ++ all_kept b) e g
    ∙ append_assoc start (clauses_below test var nodes i) (all_kept (gate_clauses var (var i) n))
    ∙ ap (λ r. start ++ r) (sym (clauses_below-then test var nodes i n h t))

pub roots-then : (var num : ℕ → ℕ) (roots : List NodeId) (i : ℕ) (d : NodeId) (start old new : List Clause)
    → i < length roots → num (get_or roots i d).0 ≡ var (get_or roots i d).0
    → old ≡ start ++ root_clauses var (take i roots) → new ≡ old ++ kept (yes (num (get_or roots i d).0) ∷ [])
    → new ≡ start ++ root_clauses var (take (i + 1) roots)
roots-then var num roots i d start old new h same e step =
    let r = get_or roots i d in
    let one : List (List Lit) = (yes (var r.0) ∷ []) ∷ [] in
    let lits : List NodeId → List (List Lit) = λ ids. map (λ (k : NodeId). yes (var k.0) ∷ []) ids in
    let more : root_clauses var (take (i + 1) roots) ≡ root_clauses var (take i roots) ++ kept (yes (var r.0) ∷ []) =
    ap (λ ids. all_kept (lits ids)) (take_more roots i d h)
    ∙ ap all_kept (map-append (λ (k : NodeId). yes (var k.0) ∷ []) (take i roots) (r ∷ []))
    ∙ all_kept-append (lits (take i roots)) one
    ∙ ap (λ c. root_clauses var (take i roots) ++ c) (append-nil (kept (yes (var r.0) ∷ []))) in
    step ∙ ap₂ (λ a x. a ++ kept (yes x ∷ [])) e same
    ∙ append_assoc start (root_clauses var (take i roots)) (kept (yes (var r.0) ∷ []))
    ∙ ap (λ c. start ++ c) (sym more)

-- ---- the list of marks

pub none_marked : (n i : ℕ) → marked (replicate n false) i ≡ false
none_marked zero i = refl
none_marked (suc n) zero = refl
none_marked (suc n) (suc i) = none_marked n i

pub reached-all : (nodes : List Node) (roots : List NodeId) (old middle new : ℕ → Bool) → ((i : ℕ) → old i ≡ false)
    → ((i : ℕ) → middle i ≡ (old i || names roots i)) →
    ((i : ℕ) → new i ≡ reached_from middle 0 nodes i) → new ≡ reached nodes roots
reached-all nodes roots old middle new none first later =
    let e : middle ≡ names roots = fun_ext (λ i. first i ∙ ap (λ b. b || names roots i) (none i)) in
    fun_ext (λ i. later i ∙ ap (λ f. reached_from f 0 nodes i) e)
