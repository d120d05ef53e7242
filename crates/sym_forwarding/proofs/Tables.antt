-- Symbolic forwarding tables, item by item.
use Rattle.std.proofs.Common.{◌≡◌, ℕ, zero, suc, ◌+◌, ◌<◌, ◌≤◌, max, Bool, true, false, List, [], ◌∷◌, ◌++◌, length}
use Rattle.std.proofs.Common.{map, set, get_or}
use Rattle.std.proofs.Common.{drop, Option, Some, None, refl, sym, ap, arith, ◌∙◌}
use Rattle.std.proofs.lemmas.List.{append-nil, drop_all, drop_more, length-map, map-append}
use Rattle.std.proofs.lemmas.Grind.{common_steps}
use Rattle.term_store.specs.declared.NodeId.{NodeId}
use Rattle.term_store.specs.Terms.{Reading, at}
use Rattle.term_arith.specs.Bits.{bits}
use Rattle.term_arith.proofs.NumberLemmas.{ids_end_at, ids_end_push, node_steps}
use Rattle.sym_policy.proofs.Rows.{with_push}
use Rattle.walk_def.specs.Marks.{known}
use Rattle.sym_forwarding.specs.declared.forwarding.SymEdge.{SymEdge}
use Rattle.sym_forwarding.specs.declared.forwarding.SymForwarding.{SymForwarding}
use Rattle.sym_forwarding.specs.Layers.{Forwarding, arrives, arriving, going, loops}
use Rattle.sym_forwarding.specs.Symbolic.{edge_of, edges_of, edges_end, forwarding_of, forwarding_end, table_of}
use Rattle.sym_forwarding.specs.Symbolic.{table_end}
use Rattle.sym_forwarding.specs.Symbolic.{layered, marked_first, marked_on}

-- ---- marks

-- the mark at a place, and none past the marks
pub known_at : (w : Reading) (marks : List NodeId) (k : ℕ) (d : NodeId) → k < length marks →
    at w (get_or marks k d) ≡ known (bits w marks) k
known_at w [] k d within = absurd (omega arith)
known_at w (m ∷ ms) zero d within = refl
known_at w (m ∷ ms) (suc k) d within = known_at w ms k d (omega arith)

pub known_past : (w : Reading) (marks : List NodeId) (k : ℕ) → length marks ≤ k → known (bits w marks) k ≡ false
known_past w [] k past = refl
known_past w (m ∷ ms) zero past = absurd (omega arith)
known_past w (m ∷ ms) (suc k) past = known_past w ms k (omega arith)

pub ruleset table_steps = (common_steps, ids_end_at, known_at, known_past)

-- ---- edges

pub edges_end_at : (es : List SymEdge) (i : ℕ) (d : SymEdge) → i < length es → (get_or es i d).when.0 < edges_end es
edges_end_at [] i d h = absurd (omega arith)
edges_end_at (e ∷ es) zero d h = omega arith
edges_end_at (e ∷ es) (suc i) d h = let rest = edges_end_at es i d (omega arith) in omega arith

-- the next edge and the rest. The first half shows which one it is
pub edges_at : (w : Reading) (es : List SymEdge) (i : ℕ) (d : SymEdge) → i < length es →
    (edge_of w (get_or es i d) ≡ edge_of w (get_or es i d))
    × (edges_of w (drop i es) ≡ edge_of w (get_or es i d) ∷ edges_of w (drop (i + 1) es))
edges_at w es i d h = (refl, ap (edges_of w) (drop_more es i d h))

pub edges_past : (w : Reading) (es : List SymEdge) (i : ℕ) → length es ≤ i → edges_of w (drop i es) ≡ []
edges_past w es i h = ap (edges_of w) (drop_all i es h)

pub ruleset edge_steps = (common_steps, edges_end_at, edges_at, edges_past)

-- ---- tables

pub table_end_at : (fs : List SymForwarding) (i : ℕ) (d : SymForwarding) → i < length fs →
    forwarding_end (get_or fs i d) ≤ table_end fs
table_end_at [] i d h = absurd (omega arith)
table_end_at (f ∷ fs) zero d h = omega arith
table_end_at (f ∷ fs) (suc i) d h = let rest = table_end_at fs i d (omega arith) in omega arith

pub table_at : (w : Reading) (fs : List SymForwarding) (i : ℕ) (d : SymForwarding) → i < length fs →
    (forwarding_of w (get_or fs i d) ≡ forwarding_of w (get_or fs i d))
    × (table_of w (drop i fs) ≡ forwarding_of w (get_or fs i d) ∷ table_of w (drop (i + 1) fs))
table_at w fs i d h = (refl, ap (table_of w) (drop_more fs i d h))

pub table_past : (w : Reading) (fs : List SymForwarding) (i : ℕ) → length fs ≤ i → table_of w (drop i fs) ≡ []
table_past w fs i h = ap (table_of w) (drop_all i fs h)

pub ruleset layer_steps = (common_steps, ids_end_push, table_end_at, table_at, table_past, with_push, append-nil)

-- ---- layers

pub layered_first : (ends_count : Bool) (table : List Forwarding) →
    layered ends_count table 0 ≡ map (marked_first ends_count) table
unfolding layered
layered_first ends_count table = refl

pub layered_more : (ends_count : Bool) (table : List Forwarding) (k : ℕ) →
    layered ends_count table (k + 1) ≡ map (marked_on ends_count (layered ends_count table k)) table
unfolding layered
layered_more ends_count table k =
    let next : k + 1 ≡ suc k = omega arith in ap (layered ends_count table) next

pub ruleset layered_steps = (common_steps, layered_first, layered_more)

arriving_layered : (table : List Forwarding) (k : ℕ) → layered true table k ≡ arriving table k
unfolding layered arriving
arriving_layered table zero = refl
arriving_layered table (suc k) = ap (λ marks. map (marked_on true marks) table) (arriving_layered table k)

going_layered : (table : List Forwarding) (k : ℕ) → layered false table k ≡ going table k
unfolding layered going
going_layered table zero = refl
going_layered table (suc k) = ap (λ marks. map (marked_on false marks) table) (going_layered table k)

pub arrives_layers : (w : Reading) (table : List SymForwarding) (router : ℕ) →
    known (layered true (table_of w table) (length table)) router ≡ arrives (table_of w table) router
arrives_layers w table router =
    let long : length (table_of w table) ≡ length table = length-map table (forwarding_of w) in
    ap (λ marks. known marks router)
    (ap (layered true (table_of w table)) (sym long) ∙ arriving_layered (table_of w table) (length (table_of w table)))

pub loops_layers : (w : Reading) (table : List SymForwarding) (router : ℕ) →
    known (layered false (table_of w table) (length table)) router ≡ loops (table_of w table) router
loops_layers w table router =
    let long : length (table_of w table) ≡ length table = length-map table (forwarding_of w) in
    ap (λ marks. known marks router)
    (ap (layered false (table_of w table)) (sym long) ∙ going_layered (table_of w table) (length (table_of w table)))

pub goes_layers : (w : Reading) (table : List SymForwarding) (hops router : ℕ) →
    known (layered false (table_of w table) hops) router ≡ known (going (table_of w table) hops) router
goes_layers w table hops router = ap (λ marks. known marks router) (going_layered (table_of w table) hops)

-- ---- a table without one router

map_set : {A B : Type 0} (f : A → B) (xs : List A) (k : ℕ) (x : A) → map f (set xs k x) ≡ set (map f xs) k (f x)
map_set f [] k x = refl
map_set f (y ∷ ys) zero x = refl
map_set f (y ∷ ys) (suc k) x = ap (λ zs. f y ∷ zs) (map_set f ys k x)

pub set_past : {A : Type 0} (xs : List A) (k : ℕ) (x : A) → length xs ≤ k → set xs k x ≡ xs
set_past [] k x past = refl
set_past (y ∷ ys) zero x past = absurd (omega arith)
set_past (y ∷ ys) (suc k) x past = ap (λ zs. y ∷ zs) (set_past ys k x (omega arith))

pub table_set : (w : Reading) (table : List SymForwarding) (k : ℕ) (f : SymForwarding) →
    table_of w (set table k f) ≡ set (table_of w table) k (forwarding_of w f)
table_set w table k f = map_set (forwarding_of w) table k f

pub table_set_past : (w : Reading) (table : List SymForwarding) (k : ℕ) (f : Forwarding) → length table ≤ k →
    table_of w table ≡ set (table_of w table) k f
table_set_past w table k f past =
    sym (set_past (table_of w table) k f (omega (arith, past, length-map table (forwarding_of w))))

pub table_end_set : (table : List SymForwarding) (k : ℕ) (f : SymForwarding) →
    table_end (set table k f) ≤ max (table_end table) (forwarding_end f)
table_end_set [] k f = omega arith
table_end_set (g ∷ gs) zero f = omega arith
table_end_set (g ∷ gs) (suc k) f = let rest = table_end_set gs k f in omega arith

pub ruleset silence_steps = (common_steps, table_set, table_set_past, table_end_set)
