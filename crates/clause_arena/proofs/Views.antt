-- The clauses that are held, as a list.
use Rattle.std.specs.Prelude.{ℕ, suc, ◌≡◌, ◌+◌, ◌-◌, ◌*◌, ◌/◌, ◌%◌, ◌<◌, ◌≤◌, ◌≢◌, ◌==◌, List, [], ◌∷◌, ◌++◌}
use Rattle.std.specs.Prelude.{Bool, true, false, not, length, map, filter, take, drop, slice_get, Some, refl}
use Rattle.std.specs.Option.{option_map}
use Rattle.std.proofs.Common.{sym, ◌∙◌, ap, subst, inl, inr, arith, length-take, length-drop}
use Rattle.std.proofs.lemmas.Bool.{cases_Bool, cases_order, eqb-false, ne_eqb}
use Rattle.std.proofs.Math.Dec.{eqb}
use borrow.Author.Tests.{eq-eqb, eqb-true}
use Rattle.std.proofs.lemmas.List.{get_or-take, get_or-drop, map-append, length-map}
use Rattle.std.proofs.lemmas.Option.{slice_get-map, slice_get-get_or}
use Rattle.std.proofs.lemmas.Grind.{same_number_lists}
use Rattle.resolution_check.specs.declared.log.Lit.{Lit}
use Rattle.clause_arena.specs.Links.{word}
use Rattle.mw_text.specs.Members.{In}
use Rattle.clause_arena.specs.Store.{IsLaid, IsSound, store}
use Rattle.clause_arena.specs.Held.{code_of, lit_of, lits_of, clauses, clause_numbered, held_in}
use Rattle.clause_arena.specs.Changes.{Adds}
use Rattle.clause_arena.specs.Compacted.{renamed, Compacts}
use Rattle.clause_arena.specs.Deleted.{others, Deletes}
use Rattle.clause_arena.proofs.Settling.{in_end, in_front}
use Rattle.clause_arena.proofs.Unlinks.{in_filter}
use Rattle.clause_arena.proofs.Places.{in_at}
use Rattle.clause_arena.proofs.Renaming.{renamed_at}

-- the words from a place on, where each is known
segment : (ws : List ℕ) (at n : ℕ) (codes : List ℕ) → at + n ≤ length ws → n ≡ length codes
    → ((k : ℕ) → k < n → word ws (at + k) ≡ word codes k)
    → take n (drop at ws) ≡ codes
segment ws at n codes room size each =
    let d : length (drop at ws) ≡ length ws - at = length-drop at ws in
    let l : length (take n (drop at ws)) ≡ length codes = omega (arith, length-take n (drop at ws)) in
    same_number_lists (take n (drop at ws)) codes l (λ k h.
    let low : k < n = omega arith in
    get_or-take n (drop at ws) k 0 low ∙ get_or-drop at ws k 0 ∙ each k low)

-- a literal is that of its code
lit_back : (var : ℕ) (negated : Bool)
    → lit_of (code_of (record { var = var; negated = negated })) ≡ record { var = var; negated = negated }
lit_back var true =
    let a : (2 * var + 1) / 2 ≡ var = omega arith in
    let b : (2 * var + 1) % 2 ≡ 1 = omega arith in
    rw (a, b) refl
lit_back var false =
    let a : (2 * var + 0) / 2 ≡ var = omega arith in
    let b : (2 * var + 0) % 2 ≡ 0 = omega arith in
    rw (a, b) refl

lits_back : (lits : List Lit) → map lit_of (map code_of lits) ≡ lits
lits_back [] = refl
lits_back (l ∷ lits) = let a : lit_of (code_of l) ≡ l = lit_back l.var l.negated in
    let b : map lit_of (map code_of lits) ≡ lits = lits_back lits in cc

map_same : {X : Type 0} (f g : ℕ → X) (rs : List ℕ) → ((s : ℕ) → In s rs → f s ≡ g s) → map f rs ≡ map g rs
map_same f g [] each = refl
map_same f g (r ∷ rs) each = let a : f r ≡ g r = each r (inl refl) in let b : map f rs
    ≡ map g rs = map_same f g rs (λ s i. each s (inr i)) in cc

-- a clause with its number
abbrev pub clause_at : List ℕ → ℕ → (ℕ × List Lit)
clause_at ws s = (word ws (s + 1), map lit_of (take (word ws s) (drop (s + 4) ws)))

-- a clause that stands elsewhere, or in other words
pub clause_like : (ws new : List ℕ) (s t : ℕ) → s + 4 + word ws s ≤ length ws → t + 4 + word new t ≤ length new
    → word new t ≡ word ws s → word new (t + 1) ≡ word ws (s + 1)
    → ((k : ℕ) → k < word ws s → word new (t + 4 + k) ≡ word ws (s + 4 + k)) → clause_at new t ≡ clause_at ws s
clause_like ws new s t old now size number each =
    let d : length (drop (s + 4) ws) ≡ length ws - (s + 4) = length-drop (s + 4) ws in
    let l : word new t ≡ length (take (word ws s) (drop (s + 4) ws)) =
    omega (arith, length-take (word ws s) (drop (s + 4) ws)) in
    let codes : take (word new t) (drop (t + 4) new) ≡ take (word ws s) (drop (s + 4) ws) =
    segment new (t + 4) (word new t) (take (word ws s) (drop (s + 4) ws)) now l (λ j h.
    let low : j < word ws s = omega arith in
    each j low ∙ sym (get_or-take (word ws s) (drop (s + 4) ws) j 0 low ∙ get_or-drop (s + 4) ws j 0)) in
    let whole : map lit_of (take (word new t) (drop (t + 4) new))
    ≡ map lit_of (take (word ws s) (drop (s + 4) ws)) = ap (map lit_of) codes in
    cc

-- an addition appends the clause
pub clauses_more : (vars : ℕ) (ws refs new more : List ℕ) (r id : ℕ) (lits : List Lit) → IsSound vars ws refs
    → IsSound vars new more
    → Adds (store vars ws refs) (store vars new more) r id (map code_of lits)
    → clauses (store vars new more) ≡ clauses (store vars ws refs) ++ (id, lits) ∷ []
clauses_more vars ws refs new more r id lits sound after adds =
    let f : ℕ → (ℕ × List Lit) = λ s. (word ws (s + 1), map lit_of (take (word ws s) (drop (s + 4) ws))) in
    let g : ℕ → (ℕ × List Lit) = λ s. (word new (s + 1), map lit_of (take (word new s) (drop (s + 4) new))) in
    let held : (s : ℕ) → In s refs
    → In s more = λ s i. subst (λ (xs : List ℕ). In s xs) (sym adds.refs) (in_front s r refs i) in
    let same : (s : ℕ) → In s refs → g s ≡ f s = λ s i.
    (let k = adds.kept s i in
    clause_like ws new s s (sound.laid.inside s i) (after.laid.inside s (held s i)) k.size k.number k.codes) in
    let own : g r ≡ (id, lits) =
    (let now : r + 4 + word new r ≤ length new = after.laid.inside r
    (subst (λ (xs : List ℕ). In r xs) (sym adds.refs) (in_end r refs)) in
    let size : word new r ≡ length (map code_of lits) = adds.size in
    let number : word new (r + 1) ≡ id = adds.number in
    let codes : take (word new r) (drop (r + 4) new) ≡ map code_of lits =
    segment new (r + 4) (word new r) (map code_of lits) now size (λ j h. adds.codes_at j (omega arith)) in
    let whole : map lit_of (take (word new r) (drop (r + 4) new)) ≡ lits = ap (map lit_of) codes ∙ lits_back lits in
    cc) in
    let split : map g (refs ++ r ∷ []) ≡ map g refs ++ g r ∷ [] = map-append g refs (r ∷ []) in
    ap (map g) adds.refs ∙ split ∙ ap (λ (xs : List (ℕ × List Lit)). xs ++ g r ∷ []) (map_same g f refs same)
    ∙ ap (λ (x : ℕ × List Lit). map f refs ++ x ∷ []) own

-- ---- without one clause

-- members of a filtered list have equal images where members of the list have
map_filter : {X : Type 0} (f g : ℕ → X) (drops : X → Bool) (r : ℕ) (refs : List ℕ)
    → ((s : ℕ) → In s refs → drops (f s) ≡ (s == r)) → ((s : ℕ) → In s refs → s ≢ r → g s ≡ f s)
    → map g (others r refs) ≡ filter (λ x. not (drops x)) (map f refs)
map_filter f g drops r [] same each = refl
map_filter f g drops r (s ∷ refs) same each =
    let rest : map g (others r refs) ≡ filter (λ x. not (drops x)) (map f refs) =
    map_filter f g drops r refs (λ t i. same t (inr i)) (λ t i. each t (inr i)) in
    elim (cases_Bool (eqb s r)) [
      | inl t ↦ rw (same s (inl refl), t) rest
      | inr t ↦
          (let e : g s ≡ f s = each s (inl refl) (eqb-false s r t) in
          rw (same s (inl refl), t) (ap (λ (x : _). x ∷ map g (others r refs)) e
          ∙ ap (λ (xs : List _). f s ∷ xs) rest))
    ]

-- numbers tell clauses apart
number_tells : (vars len : ℕ) (f : ℕ → ℕ) (refs : List ℕ) (s r : ℕ) → IsLaid vars len f refs → In s refs → In r refs
    → (f (s + 1) == f (r + 1)) ≡ (s == r)
number_tells vars len f refs s r laid i j =
    elim (cases_order s r) [
      | inl e ↦ rw (eq-eqb s r e) (eq-eqb (f (s + 1)) (f (r + 1)) (ap (λ (u : ℕ). f (u + 1)) e))
      | inr apart ↦ elim apart [
        | inl lt ↦ (let h : f (s + 1) < f (r + 1) = laid.numbers s r i j lt in
            rw (ne_eqb s r (λ e. omega arith)) (ne_eqb (f (s + 1)) (f (r + 1)) (λ e. omega arith)))
        | inr gt ↦ (let h : f (r + 1) < f (s + 1) = laid.numbers r s j i gt in
            rw (ne_eqb s r (λ e. omega arith)) (ne_eqb (f (s + 1)) (f (r + 1)) (λ e. omega arith)))
      ]
    ]

-- a deletion takes the clause of this number out
pub clauses_less : (vars : ℕ) (ws refs new : List ℕ) (r : ℕ) → IsSound vars ws refs
    → IsSound vars new (others r refs) → In r refs
    → Deletes (store vars ws refs) (store vars new (others r refs)) r
    → clauses (store vars new (others r refs))
    ≡ filter (λ k. not (k.0 == word ws (r + 1))) (clauses (store vars ws refs))
clauses_less vars ws refs new r sound after held deletes =
    map_filter (clause_at ws) (clause_at new) (λ k. k.0 == word ws (r + 1)) r refs
    (λ s i. number_tells vars (length ws) (word ws) refs s r sound.laid i held)
    (λ s i ne. (let j : In s (others r refs) = in_filter (λ q. not (q == r)) s refs i (rw (ne_eqb s r ne) refl) in
    let k = deletes.kept s j in
    clause_like ws new s s (sound.laid.inside s i) (after.laid.inside s j) k.size k.number k.codes))

-- ---- at new references

-- two lists of references have equal images where those at equal places have
map_along : {X : Type 0} (f g : ℕ → X) (refs new : List ℕ) → length new ≡ length refs
    → ((j : ℕ) → j < length refs → g (word new j) ≡ f (word refs j)) → map g new ≡ map f refs
map_along f g [] [] e each = refl
map_along f g [] (s ∷ new) e each = absurd (omega arith)
map_along f g (r ∷ refs) [] e each = absurd (omega arith)
map_along f g (r ∷ refs) (s ∷ new) e each =
    let here : g s ≡ f r = each 0 (omega arith) in
    let rest : map g new ≡ map f refs = map_along f g refs new (omega arith) (λ j h. each (suc j) (omega arith)) in
    cc

-- a compaction leaves the clauses
pub clauses_same : (vars : ℕ) (ws done refs new : List ℕ) → IsSound vars ws refs → IsSound vars done new
    → Compacts (store vars ws refs) (store vars done new) → clauses (store vars done new) ≡ clauses (store vars ws refs)
clauses_same vars ws done refs new sound after c =
    map_along (clause_at ws) (clause_at done) refs new c.count (λ j h.
    (let r = word refs j in
    let i : In r refs = in_at refs j h in
    let e : renamed refs new r ≡ word new j = renamed_at refs new j sound.laid.rising c.count h in
    let k = c.same r i in
    let like : clause_at done (renamed refs new r) ≡ clause_at ws r =
    clause_like ws done r (renamed refs new r) (sound.laid.inside r i)
    (after.laid.inside (renamed refs new r) (c.held r i)) k.size k.number k.codes in
    ap (clause_at done) (sym e) ∙ like))

-- ---- a clause as it is read

-- how many literals it has
pub lits_count : (vars : ℕ) (ws refs : List ℕ) (r : ℕ) → IsSound vars ws refs → In r refs
    → length (lits_of (store vars ws refs) r) ≡ word ws r
lits_count vars ws refs r sound i =
    let h : r + 4 + word ws r ≤ length ws = sound.laid.inside r i in
    let codes = take (word ws r) (drop (r + 4) ws) in
    let d : length (drop (r + 4) ws) ≡ length ws - (r + 4) = length-drop (r + 4) ws in
    let l : length codes ≡ word ws r = omega (arith, length-take (word ws r) (drop (r + 4) ws)) in
    length-map codes lit_of ∙ l

-- the literal at a place
pub lits_listed : (vars : ℕ) (ws refs : List ℕ) (r k code : ℕ) → IsSound vars ws refs → In r refs → k < word ws r
    → code ≡ word ws (r + 4 + k) → slice_get (lits_of (store vars ws refs) r) k ≡ Some (lit_of code)
lits_listed vars ws refs r k code sound i h e =
    let all : length (lits_of (store vars ws refs) r) ≡ word ws r = lits_count vars ws refs r sound i in
    let codes = take (word ws r) (drop (r + 4) ws) in
    let within : k < length codes = omega (arith, length-map codes lit_of) in
    slice_get-map lit_of codes k ∙ ap (option_map lit_of) (slice_get-get_or codes k 0 within)
    ∙ ap (λ (u : ℕ). Some (lit_of u)) (get_or-take (word ws r) (drop (r + 4) ws) k 0 h ∙ get_or-drop (r + 4) ws k 0
    ∙ sym e)

-- the clause that is held by its number
numbered_by : (f : ℕ → (ℕ × List Lit)) (refs : List ℕ) (r : ℕ) → In r refs
    → ((s : ℕ) → In s refs → ((f s).0 == (f r).0) ≡ (s == r))
    → clause_numbered (map f refs) (f r).0 ≡ Some (record { lits = (f r).1 })
numbered_by f [] r i tells = absurd i
numbered_by f (q ∷ qs) r i tells =
    elim (cases_Bool (eqb q r)) [
      | inl t ↦ rw (tells q (inl refl), t)
          (ap (λ (u : ℕ). Some (record { lits = (f u).1 })) (eqb-true q r t))
      | inr t ↦ rw (tells q (inl refl), t) (elim i [
        | inl e ↦ absurd (eqb-false q r t (sym e))
        | inr j ↦ numbered_by f qs r j (λ s k. tells s (inr k))
      ])
    ]

pub clause_held_by : (vars : ℕ) (ws refs : List ℕ) (r id : ℕ) → IsSound vars ws refs → In r refs
    → id ≡ word ws (r + 1)
    → held_in (store vars ws refs) id ≡ Some (record { lits = lits_of (store vars ws refs) r })
clause_held_by vars ws refs r id sound i e =
    ap (held_in (store vars ws refs)) e
    ∙ numbered_by (clause_at ws) refs r i (λ s k. number_tells vars (length ws) (word ws) refs s r sound.laid k i)
