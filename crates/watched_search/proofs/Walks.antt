-- Walks along the list of a literal that became false.
use Rattle.std.proofs.Common.{◌≡◌, ◌⊎◌, ℕ, ◌+◌, ◌-◌, ◌*◌, ◌%◌, ◌<◌, ◌≤◌, ◌==◌, Bool, true, false, cond, List, []}
use Rattle.std.proofs.Common.{◌++◌, ◌/◌, length, length-append, append-nil, append_assoc, ◌∷◌, Option, Some}
use Rattle.std.proofs.Common.{None, inl, inr, refl, sym, ap, subst, ◌∙◌, arith}
use Rattle.std.proofs.Common.{not, take, slice_get}
use Rattle.std.specs.Bool.{beq}
use Rattle.std.proofs.lemmas.Bool.{cases_Bool, cases_eq, eq-eqb, eqb-true}
use Rattle.std.proofs.lemmas.List.{take-take}
use Rattle.mw_text.proofs.Lists.{beq-true}
use Rattle.resolution_check.specs.declared.log.Lit.{Lit}
use Rattle.resolution_check.specs.Trails.{value_of, is_value, holds, fails}
use Rattle.resolution_check.proofs.Values.{not_both, value_of-keeps, value_of-last, value_of-other}
use Rattle.mw_text.proofs.Found.{take_at}
use Rattle.clause_arena.specs.declared.names.Watch.{Watch}
use Rattle.clause_arena.specs.Links.{word, Threads, places, after, cut, first}
use Rattle.mw_text.specs.Members.{In}
use Rattle.clause_arena.specs.Store.{Store, IsSound}
use Rattle.std.specs.Prelude.{IfSome}
use Rattle.resolution_check.specs.Clauses.{opposite}
use Rattle.resolution_check.proofs.Literals.{opposite_twice}
use Rattle.clause_arena.specs.Held.{lit_of, code_of}
use Rattle.clause_arena.specs.Moved.{Moves}
use Rattle.clause_arena.specs.Watched.{place, Stands, rest, head, link_of}
use Rattle.clause_arena.proofs.Threads.{threads_one, after_threads}
use Rattle.clause_arena.proofs.Walks.{followed}
use Rattle.watched_search.specs.Watches.{literal, AllTrue, Extends, IsKept, IsWalked, OtherTrue}
use Rattle.watched_search.proofs.Moved.{still}
use Rattle.mw_text.proofs.Lists.{item_before}
use Rattle.watched_search.proofs.Settled.{same_code}
use Rattle.watched_search.proofs.Visits.{holds_append}
use Rattle.conflict_analysis.proofs.Followed.{front_fails}

-- ---- lists

after_self : (n : ℕ) (xs : List ℕ) → after n n xs ≡ xs
after_self n [] = refl
after_self n (q ∷ qs) = ap (λ b. cond b (q ∷ qs) (after n q qs)) (eq-eqb n n refl)

cut_in : (p b at : ℕ) (xs : List ℕ) → In p (cut b at xs) → In p xs
cut_in p b at [] i = absurd i
cut_in p b at (q ∷ qs) i = elim (cases_Bool (b == at)) [
  | inl here ↦ inr (subst (λ t. In p (cond t qs (q ∷ cut b q qs))) here i)
  | inr other ↦ elim (subst (λ t. In p (cond t qs (q ∷ cut b q qs))) other i) [
    | inl e ↦ inl e
    | inr j ↦ inr (cut_in p b q qs j)
  ]
]

after_in : (p b at : ℕ) (xs : List ℕ) → In p (after b at xs) → In p xs
after_in p b at [] i = absurd i
after_in p b at (q ∷ qs) i = elim (cases_Bool (b == at)) [
  | inl here ↦ subst (λ t. In p (cond t (q ∷ qs) (after b q qs))) here i
  | inr other ↦ inr (after_in p b q qs (subst (λ t. In p (cond t (q ∷ qs) (after b q qs))) other i))
]

-- what follows a place, once the first of it was cut out
after_cut : (b at q : ℕ) (qs xs : List ℕ) → after b at xs ≡ q ∷ qs → after b at (cut b at xs) ≡ qs
after_cut b at q qs [] e = absurd (cc)
after_cut b at q qs (x ∷ xs) e = elim (cases_Bool (b == at)) [
  | inl here ↦
      let f : x ∷ xs ≡ q ∷ qs = sym (ap (λ t. cond t (x ∷ xs) (after b x xs)) here) ∙ e in
      let g : xs ≡ qs = cc in
      ap (λ t. after b at (cond t xs (x ∷ cut b x xs))) here ∙ whole xs here ∙ g
  | inr other ↦
      let f : after b x xs ≡ q ∷ qs = sym (ap (λ t. cond t (x ∷ xs) (after b x xs)) other) ∙ e in
      ap (λ t. after b at (cond t xs (x ∷ cut b x xs))) other
      ∙ ap (λ t. cond t (x ∷ cut b x xs) (after b x (cut b x xs))) other
      ∙ after_cut b x q qs xs f
]
  where
    whole : (ys : List ℕ) → (b == at) ≡ true → after b at ys ≡ ys
    whole [] h = refl
    whole (y ∷ ys) h = ap (λ t. cond t (y ∷ ys) (after b y ys)) h

-- a list with a first place is not empty
not_empty : (xs : List ℕ) (p : ℕ) → first xs ≡ p → 0 < p → (qs : List ℕ) × (xs ≡ p ∷ qs)
not_empty [] p e h = absurd (omega arith)
not_empty (q ∷ qs) p e h = (qs, ap (λ x. x ∷ qs) e)

module _ (a : Store) (sound : IsSound a.vars a.words a.refs) (n : ℕ) (below : n < 2 * a.vars) where
  -- two clauses with a watch at one place are one, and so are the sides
  one_place : (r s i j : ℕ) → In r a.refs → In s a.refs → i < 2 → j < 2 → r + 2 + i ≡ s + 2 + j → (r ≡ s) × (i ≡ j)
  one_place r s i j in_r in_s low_i low_j e =
      let even_r : r % 2 ≡ 0 = sound.laid.even r in_r in
      let even_s : s % 2 ≡ 0 = sound.laid.even s in_s in
      (omega arith, omega arith)

  pub walk_begins : (steps : List Lit) → IsWalked a steps None n
  walk_begins steps = record {
    walked = λ p i. inl (subst (λ (xs : List ℕ). In p xs) (sym (after_self n (places a.words n))) i);
  }

  pub walk_ends : (steps : List Lit) (before : Option Watch) → 0 ≡ head a before n → IsWalked a steps before n
      → AllTrue a steps n
  walk_ends steps before none w = record {
    other = λ p i. elim (w.walked p i) [
      | inr done ↦ done
      | inl left ↦ absurd (nothing (rest a before n) refl p left)
    ];
  }
    where
      nothing : (xs : List ℕ) → xs ≡ rest a before n → (p : ℕ) → In p (rest a before n) → ⊥
      nothing [] e p i = subst (λ (ys : List ℕ). In p ys) (sym e) i
      nothing (q ∷ qs) e p i =
          let z : q ≡ 0 = ap first e ∙ sym none in
          let there : In q (places a.words n) =
          after_in q (link_of before n) n (places a.words n)
          (subst (λ (ys : List ℕ). In q ys) e (inl refl)) in
          let watch = sound.linked.watch n q below there in
          let at : q ≡ watch.ref + 2 + watch.side = watch.place in absurd (omega arith)

  module _ (steps : List Lit) (before : Option Watch) (w : Watch) (st : Stands a n w)
      (at_w : head a before n ≡ place w)
      (walk : IsWalked a steps before n) where
    -- what is to come is the watch, and what is to come behind it
    split : (p : ℕ) → In p (rest a before n) → (p ≡ place w) ⊎ In p (rest a (Some w) n)
    split p i =
        let f = word a.words in
        let xs = places a.words n in
        let t : Threads f n xs = sound.linked.threads n below in
        let some : 0 < place w = omega arith in
        let in_it = followed f n (link_of before n) xs (subst (λ (k : ℕ). 0 < k) (sym at_w) some) in
        let tail = not_empty (rest a before n) (place w) at_w some in
        let thread = subst (λ (ys : List ℕ). Threads f (link_of before n) ys) tail.1
        (after_threads f n (link_of before n) xs t in_it) in
        let same : rest a (Some w) n ≡ tail.0 =
        threads_one f (place w) (rest a (Some w) n) tail.0
        (after_threads f n (place w) xs t (inr st.listed)) thread.2 in
        elim (subst (λ (ys : List ℕ). In p ys) tail.1 i) [
          | inl e ↦ inl e
          | inr j ↦ inr (subst (λ (ys : List ℕ). In p ys) (sym same) j)
        ]

    -- a watch that stays, since the other one is true
    pub walk_past : holds steps (literal a w.clause.0 (1 - w.side)) ≡ true → IsWalked a steps (Some w) n
    walk_past true_now = record {
      walked = λ p i. elim (walk.walked p i) [
        | inr done ↦ inr done
        | inl left ↦ elim (split p left) [
          | inr behind ↦ inl behind
          | inl here ↦ inr (λ r side in_r two low e.
              (let same = one_place r w.clause.0 side w.side in_r st.held low st.low (sym e ∙ here) in
              ap (λ s. holds steps (literal a s (1 - side))) same.0
              ∙ ap (λ k. holds steps (literal a w.clause.0 (1 - k))) same.1 ∙ true_now))
        ]
      ];
    }

-- more steps leave what is true
pub walk_later : (a : Store) (old new : List Lit) (before : Option Watch) (n : ℕ)
    → ((l : Lit) → holds old l ≡ true → holds new l ≡ true) → IsWalked a old before n → IsWalked a new before n
walk_later a old new before n more w = record {
  walked = λ p i. elim (w.walked p i) [
    | inl left ↦ inl left
    | inr done ↦ inr (λ r side in_r two low e. more (literal a r (1 - side)) (done r side in_r two low e))
  ];
}

module _ (old new : Store) (before : Option Watch) (w : Watch) (to n : ℕ) (sound : IsSound old.vars old.words old.refs)
    (sound_new : IsSound new.vars new.words new.refs) (mv : Moves old new before w to) (st : Stands old n w)
    (high : 2 ≤ to) (within : to < word old.words w.clause.0) (at_w : head old before n ≡ place w) where
  own_low : n < 2 * old.vars
  own_low =
      let low : w.side < 2 = st.low in
      let two : 2 ≤ word old.words w.clause.0 = st.two in
      let own : word old.words (w.clause.0 + 4 + w.side) ≡ n = st.code in
      let h : word old.words (w.clause.0 + 4 + w.side) < 2 * old.vars =
      sound.laid.below w.clause.0 w.side st.held (omega arith) in omega arith

  listed_now : places new.words n ≡ cut (link_of before n) n (places old.words n)
  listed_now =
      subst (λ (k : ℕ). places new.words k ≡ cut (link_of before k) k (places old.words k)) st.code mv.left

  -- the watch itself is not in the list any more
  gone : In (place w) (places new.words n) → ⊥
  gone i =
      let vars : new.vars ≡ old.vars = mv.vars in
      let low : n < 2 * old.vars = own_low in
      let watch = sound_new.linked.watch n (place w) (omega arith) i in
      let held_old : In watch.ref old.refs = subst (λ (rs : List ℕ). In watch.ref rs) mv.refs watch.held in
      let same = one_place old sound n low watch.ref w.clause.0 watch.side w.side held_old st.held watch.low st.low
      (sym watch.place) in
      let code : word new.words (w.clause.0 + 4 + w.side) ≡ n =
      ap (λ s. word new.words (s + 4 + w.side)) (sym same.0)
      ∙ ap (λ k. word new.words (watch.ref + 4 + k)) (sym same.1) ∙ watch.code in
      let two : 2 ≤ word old.words w.clause.0 = st.two in
      let side : w.side < 2 = st.low in
      let e : to ≡ w.side =
      sound.laid.differ w.clause.0 to w.side st.held within (omega arith) (sym mv.one ∙ code ∙ sym st.code) in
      absurd (omega arith)

  module _ (steps : List Lit) (own_false : fails steps (literal old w.clause.0 w.side) ≡ true)
      (walk : IsWalked old steps before n) where
    -- a watch whose other one was true is that of another clause
    other_still : (p : ℕ) → In p (places new.words n) → OtherTrue old steps p → OtherTrue new steps p
    other_still p i done r side in_r two low e =
        let in_old : In r old.refs = subst (λ (rs : List ℕ). In r rs) mv.refs in_r in
        let size : word new.words r ≡ word old.words r = mv.sizes r in_old in
        let before_it : holds steps (literal old r (1 - side)) ≡ true = done r side in_old (omega arith) low e in
        elim (cases_eq r w.clause.0) [
          | inr ne ↦
              ap (holds steps) (still old new before w to sound sound_new mv st.held st.low high within r (1 - side)
              in_old (omega arith) (λ g. absurd (ne g)) (λ g. absurd (ne g)))
              ∙ before_it
          | inl g ↦ elim (cases_eq side w.side) [
            | inl f ↦ absurd (gone (subst (λ (q : ℕ). In q (places new.words n))
                (e ∙ ap (λ s. s + 2 + side) g ∙ ap (λ k. w.clause.0 + 2 + k) f) i))
            | inr off ↦
                let small : w.side < 2 = st.low in
                let own : 1 - side ≡ w.side = omega arith in
                let is : literal old r (1 - side) ≡ literal old w.clause.0 w.side =
                ap (λ s. literal old s (1 - side)) g ∙ ap (literal old w.clause.0) own in
                absurd (not_both steps (literal old w.clause.0 w.side) own_false
                (ap (holds steps) (sym is) ∙ before_it))
          ]
        ]

    -- a watch that was moved
    pub walk_moved : IsWalked new steps before n
    walk_moved =
        let some : 0 < place w = omega arith in
        let tail = not_empty (rest old before n) (place w) at_w some in
        let now : rest new before n ≡ tail.0 =
        ap (after (link_of before n) n) listed_now
        ∙ after_cut (link_of before n) n (place w) tail.0 (places old.words n) tail.1 in
        record {
          walked = λ p i.
              (let in_old : In p (places old.words n) =
              cut_in p (link_of before n) n (places old.words n) (subst (λ (xs : List ℕ). In p xs) listed_now i) in
              elim (walk.walked p in_old) [
                | inr done ↦ inr (other_still p i done)
                | inl left ↦ elim (subst (λ (xs : List ℕ). In p xs) tail.1 left) [
                  | inl here ↦ absurd (gone (subst (λ (q : ℕ). In q (places new.words n)) here i))
                  | inr behind ↦ inl (subst (λ (xs : List ℕ). In p xs) (sym now) behind)
                ]
              ]);
        }

-- ---- what a walk keeps

-- a literal is that of its code
pub lit_back : (l : Lit) → lit_of (code_of l) ≡ l
lit_back l = by l.negated refl
  where
    by : (b : Bool) → l.negated ≡ b → lit_of (code_of l) ≡ l
    by true e =
        let code : code_of l ≡ 2 * l.var + 1 = ap (λ (c : Bool). 2 * l.var + cond c 1 0) e in
        let half : code_of l / 2 ≡ l.var = omega arith in
        let odd : code_of l % 2 ≡ 1 = omega arith in
        let sign : (code_of l % 2 == 1) ≡ l.negated = eq-eqb (code_of l % 2) 1 odd ∙ sym e in
        λ i. record { var = half i; negated = sign i }
    by false e =
        let code : code_of l ≡ 2 * l.var + 0 = ap (λ (c : Bool). 2 * l.var + cond c 1 0) e in
        let half : code_of l / 2 ≡ l.var = omega arith in
        let even : code_of l % 2 ≡ 0 = omega arith in
        let sign : (code_of l % 2 == 1) ≡ l.negated = ap (λ (k : ℕ). k == 1) even ∙ sym e in
        λ i. record { var = half i; negated = sign i }

fails_append : (ls ms : List Lit) (l : Lit) → fails ls l ≡ true → fails (ls ++ ms) l ≡ true
fails_append ls ms l h =
    subst (λ (k : Lit). fails (ls ++ ms) k ≡ true) (opposite_twice l)
    (holds_append ls ms (opposite l) (subst (λ (k : Lit). fails ls k ≡ true) (sym (opposite_twice l)) h))

pub more_false : (old new : List Lit) (l : Lit) → Extends old new → fails old l ≡ true → fails new l ≡ true
more_false old new l x h = subst (λ (ls : List Lit). fails ls l ≡ true) (sym x.is) (fails_append old x.more l h)

pub more_true : (old new : List Lit) (l : Lit) → Extends old new → holds old l ≡ true → holds new l ≡ true
more_true old new l x h = subst (λ (ls : List Lit). holds ls l ≡ true) (sym x.is) (holds_append old x.more l h)

pub extends_same : (ls : List Lit) → Extends ls ls
extends_same ls = record { more = []; is = sym (append-nil ls) }

pub extends_then : (old middle new : List Lit) → Extends old middle → Extends middle new → Extends old new
extends_then old middle new x y = record {
  more = x.more ++ y.more;
  is = y.is ∙ ap (λ (ls : List Lit). ls ++ y.more) x.is ∙ append_assoc old x.more y.more;
}

pub extends_within : (old new : List Lit) (n : ℕ) → Extends old new → n ≤ length old → n ≤ length new
extends_within old new n x low =
    let e : length new ≡ length old + length x.more = ap length x.is ∙ length-append old x.more in omega arith

-- the watch that was found stands in the list
pub stands_at : (a : Store) (n : ℕ) (o : Option Watch) (w : Watch) → o ≡ Some w → IfSome o (Stands a n) → Stands a n w
stands_at a n o w e h = subst (λ (p : Option Watch). IfSome p (Stands a n)) e h

pub own_literal : (a : Store) (l : Lit) (w : Watch) → Stands a (code_of l) w → literal a w.clause.0 w.side ≡ l
own_literal a l w st = ap lit_of st.code ∙ lit_back l

-- ---- one literal more was looked at

-- what is false by one step more was so before, or is its negation
fails_more : (ls : List Lit) (t x : Lit) → fails (ls ++ t ∷ []) x ≡ true → (fails ls x ≡ true) ⊎ (x ≡ opposite t)
fails_more ls t x h = by (value_of ls x.var) refl
  where
    flip : (a b : Bool) → beq (not a) b ≡ true → b ≡ not a
    flip a b g = sym (beq-true (not a) b g)

    by : (o : Option Bool) → value_of ls x.var ≡ o → (fails ls x ≡ true) ⊎ (x ≡ opposite t)
    by (Some b) e = inl (ap (λ o. is_value o x.negated) e
        ∙ sym (ap (λ o. is_value o x.negated) (value_of-keeps ls (t ∷ []) x.var b e)) ∙ h)
    by None e = elim (cases_Bool (t.var == x.var)) [
      | inr other ↦ inl (ap (λ o. is_value o x.negated) (sym (value_of-other ls t x.var other)) ∙ h)
      | inl here ↦
          let v : x.var ≡ t.var = sym (eqb-true t.var x.var here) in
          let value : value_of (ls ++ t ∷ []) x.var ≡ Some (not t.negated) =
          ap (value_of (ls ++ t ∷ [])) v ∙ value_of-last ls t (ap (value_of ls) (sym v) ∙ e) in
          let sign : x.negated ≡ not t.negated =
          flip t.negated x.negated (sym (ap (λ o. is_value o x.negated) value) ∙ h) in
          inr (λ i. record { var = v i; negated = sign i })
    ]

pub looked_more : (a : Store) (lits : List Lit) (levels : List ℕ) (at : ℕ) (t : Lit) → IsSound a.vars a.words a.refs
    → slice_get lits at ≡ Some t → AllTrue a lits (code_of (opposite t)) → IsKept a lits levels at
    → IsKept a lits levels (at + 1)
looked_more a lits levels at t sound there all k = record {
  filled = k.filled;
  ones = k.ones;
  before = k.before;
  low = k.low;
  now = λ r side i two low falls.
      elim (fails_more (take at lits) t (literal a r side)
      (sym (ap (λ ls. fails ls (literal a r side)) (take_at lits at t there)) ∙ falls)) [
        | inl was ↦ k.now r side i two low was
        | inr is ↦
            let code : word a.words (r + 4 + side) ≡ code_of (opposite t) =
            same_code (word a.words (r + 4 + side)) (code_of (opposite t)) (is ∙ sym (lit_back (opposite t))) in
            all.other (r + 2 + side)
            (subst (λ (n : ℕ). In (r + 2 + side) (places a.words n)) code (sound.linked.listed r side i two low))
            r side i two low refl
      ];
}

pub looked_less : (a : Store) (lits : List Lit) (levels : List ℕ) (n at : ℕ) → n ≤ at → IsKept a lits levels at
    → IsKept a lits levels n
looked_less a lits levels n at low k = record {
  filled = k.filled;
  ones = k.ones;
  before = k.before;
  low = k.low;
  now = λ r side i two small falls.
      k.now r side i two small
      (front_fails (take at lits) n (literal a r side)
      (ap (λ ls. fails ls (literal a r side)) (take-take n at lits low) ∙ falls));
}

-- all literals were looked at
pub looked_all : (a : Store) (lits : List Lit) (levels : List ℕ) (at : ℕ) → at ≤ length lits → length lits ≤ at
    → IsKept a lits levels at → IsKept a lits levels (length lits)
looked_all a lits levels at low high k =
    let e : at ≡ length lits = omega arith in subst (IsKept a lits levels) e k

pub still_there : (old new : List Lit) (at : ℕ) (t : Lit) → Extends old new → slice_get old at ≡ Some t
    → slice_get new at ≡ Some t
still_there old new at t x there =
    subst (λ (ls : List Lit). slice_get ls at ≡ Some t) (sym x.is) (item_before old x.more at t there)
