-- Walks along the lists of watches.
use Rattle.std.specs.Prelude.{ℕ, ◌≡◌, ◌+◌, ◌-◌, ◌*◌, ◌%◌, ◌<◌, ◌≤◌, ◌⊎◌, List, [], ◌∷◌, length, Option, Some, None}
use Rattle.std.specs.Prelude.{IfSome, refl}
use Rattle.std.proofs.Common.{sym, ◌∙◌, ap, subst, inl, inr, arith, cond}
use Rattle.std.proofs.lemmas.Bool.{cases_Bool, cases_eq, ne_eqb}
use Rattle.std.proofs.Math.Dec.{eqb}
use borrow.Author.Tests.{eqb-true}
use Rattle.clause_arena.specs.declared.names.Watch.{Watch}
use Rattle.clause_arena.specs.Links.{word, Threads, places, after, first}
use Rattle.mw_text.specs.Members.{In}
use Rattle.clause_arena.specs.Store.{IsSound, Store, store}
use Rattle.clause_arena.specs.Watched.{place, place_or, own, Stands, head, left, watch_made, watch_at, link_of}
use Rattle.clause_arena.proofs.Threads.{threads_one, next_in, after_threads, first_threads}

-- ---- a place and its watch

-- what a place in a list says of the watch that is made of it
pub record IsMade (a : Store) (n p : ℕ) : Type 0 where
  pub stands : Stands a n (watch_made p)
  pub place : place (watch_made p) ≡ p
  pub high : 2 ≤ p

pub made : (vars : ℕ) (ws refs : List ℕ) (n p : ℕ) → IsSound vars ws refs → n < 2 * vars → In p (places ws n)
    → IsMade (store vars ws refs) n p
made vars ws refs n p s h i =
    let w = s.linked.watch n p h i in
    let even : w.ref % 2 ≡ 0 = s.laid.even w.ref w.held in
    let at : p ≡ w.ref + 2 + w.side = w.place in
    let low : w.side < 2 = w.low in
    let side : w.side ≡ p % 2 = omega arith in
    let ref : w.ref ≡ p - 2 - p % 2 = omega arith in
    let back : p - 2 - p % 2 + 2 + p % 2 ≡ p = omega arith in
    record {
      stands = record {
        held = subst (λ (r : ℕ). In r refs) ref w.held;
        low = omega arith;
        two = subst (λ (r : ℕ). 2 ≤ word ws r) ref w.two;
        code = subst (λ (r : ℕ). word ws (r + 4 + p % 2) ≡ n) ref
            (subst (λ (k : ℕ). word ws (w.ref + 4 + k) ≡ n) side w.code);
        listed = subst (λ (q : ℕ). In q (places ws n)) (sym back) i;
      };
      place = back;
      high = omega arith;
    }

-- ---- what a link answers

none : (p : ℕ) → p ≡ 0 → watch_at p ≡ None
none p z = rw z refl

some : (p : ℕ) → (p ≡ 0 → ⊥) → watch_at p ≡ Some (watch_made p)
some p nz = rw (ne_eqb p 0 nz) refl

-- what the word at a link leads to, as a watch
pub record Leads (a : Store) (n b : ℕ) (answer : Option Watch) : Type 0 where
  pub head : place_or answer ≡ first (after b n (places a.words n))
  pub stands : IfSome answer (Stands a n)

pub leads : (vars : ℕ) (ws refs : List ℕ) (n b : ℕ) → IsSound vars ws refs → n < 2 * vars → (b ≡ n) ⊎ In b (places ws n)
    → Leads (store vars ws refs) n b (watch_at (word ws b))
leads vars ws refs n b s h here =
    let t : Threads (word ws) n (places ws n) = s.linked.threads n h in
    let f : first (after b n (places ws n)) ≡ word ws b =
    first_threads (word ws) b (after b n (places ws n)) (after_threads (word ws) n b (places ws n) t here) in
    elim (cases_eq (word ws b) 0) [
      | inl z ↦ subst (λ (answer : Option Watch). Leads (store vars ws refs) n b answer) (sym (none (word ws b) z))
          (record { head = sym (f ∙ z); stands = tt })
      | inr nz ↦
          (let i : In (word ws b) (places ws n) = next_in (word ws) n b (places ws n) t here (omega arith) in
          let m = made vars ws refs n (word ws b) s h i in
          subst (λ (answer : Option Watch). Leads (store vars ws refs) n b answer) (sym (some (word ws b) nz))
          (record { head = m.place ∙ sym f; stands = m.stands }))
    ]

-- what the word at a link leads to is no place below 2
pub low_or_high : (vars : ℕ) (ws refs : List ℕ) (n b : ℕ) → IsSound vars ws refs → n < 2 * vars
    → (b ≡ n) ⊎ In b (places ws n)
    → (word ws b ≡ 0) ⊎ (3 < word ws b + 2)
low_or_high vars ws refs n b s h here =
    elim (cases_eq (word ws b) 0) [
      | inl z ↦ inl z
      | inr nz ↦
          (let t : Threads (word ws) n (places ws n) = s.linked.threads n h in
          let i : In (word ws b) (places ws n) = next_in (word ws) n b (places ws n) t here (omega arith) in
          let m = made vars ws refs n (word ws b) s h i in
          inr (omega (arith, m.high)))
    ]

-- ---- how many follow

-- what is followed is in the list
pub followed : (f : ℕ → ℕ) (at b : ℕ) (xs : List ℕ) → 0 < first (after b at xs) → (b ≡ at) ⊎ In b xs
followed f at b [] h = absurd (omega arith)
followed f at b (q ∷ qs) h =
    elim (cases_Bool (eqb b at)) [
      | inl at_it ↦ inl (eqb-true b at at_it)
      | inr off_it ↦ inr (followed f q b qs (subst (λ (u : _). 0 < first (cond u (q ∷ qs) (after b q qs))) off_it h))
    ]

-- a list is longer than what its first place leads to
longer : (f : ℕ → ℕ) (b p : ℕ) (ys zs : List ℕ) → Threads f b ys → first ys ≡ p → 0 < p → Threads f p zs
    → length zs < length ys
longer f b p [] zs t e h u = absurd (omega arith)
longer f b p (q ∷ qs) zs t e h u =
    let same : zs ≡ qs = threads_one f p zs qs u (subst (λ (k : ℕ). Threads f k qs) e t.2) in
    let l : length zs ≡ length qs = ap length same in
    omega arith

-- fewer follow a watch than what it is the first of
pub fewer : (a : Store) (n : ℕ) (w : Watch) (before : Option Watch) → Threads (word a.words) n (places a.words n)
    → In (place w) (places a.words n) → head a before n ≡ place w → left a (Some w) n < left a before n
fewer a n w before t i e =
    let f = word a.words in
    let xs = places a.words n in
    let b = link_of before n in
    let pos : 0 < place w = omega arith in
    let in_it : (b ≡ n) ⊎ In b xs = followed f n b xs (subst (λ (k : ℕ). 0 < k) (sym e) pos) in
    longer f b (place w) (after b n xs) (after (place w) n xs) (after_threads f n b xs t in_it) e pos
    (after_threads f n (place w) xs t (inr i))

-- ---- a watch that stands in the list of its literal

-- its literal's code is that of a head
pub code_below : (vars : ℕ) (ws refs : List ℕ) (w : Watch) → IsSound vars ws refs
    → Stands (store vars ws refs) (own (store vars ws refs) w) w
    → own (store vars ws refs) w < 2 * vars
code_below vars ws refs w s st =
    s.laid.below w.clause.0 w.side st.held (let low : w.side < 2 = st.low in
    let two : 2 ≤ word ws w.clause.0 = st.two in omega arith)

-- its link is within the words
pub place_within : (vars : ℕ) (ws refs : List ℕ) (w : Watch) → IsSound vars ws refs
    → Stands (store vars ws refs) (own (store vars ws refs) w) w
    → place w < length ws
place_within vars ws refs w s st = omega (arith, s.laid.inside w.clause.0 st.held, st.low)
