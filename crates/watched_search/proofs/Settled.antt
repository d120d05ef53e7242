-- Two watched literals: what is watched so is neither false nor unit.
use Rattle.std.proofs.Common.{◌≡◌, ℕ, ◌+◌, ◌/◌, ◌%◌, ◌<◌, ◌≤◌, ◌==◌, Bool, true, false, not}
use Rattle.std.proofs.Common.{List, [], ◌∷◌, map, length, take, Option, Some, None, inl, inr, refl}
use Rattle.std.proofs.Common.{sym, ap, subst, ◌∙◌, cond, arith}
use Rattle.std.proofs.lemmas.Bool.{cases_Bool, cases_lt, eqb-true, false≢true, true≢false}
use Rattle.std.proofs.lemmas.List.{take-take, take_all}
use Rattle.resolution_check.specs.declared.log.Lit.{Lit}
use Rattle.resolution_check.specs.declared.log.Clause.{Clause}
use Rattle.resolution_check.specs.Clauses.{opposite, is_same, has}
use Rattle.resolution_check.specs.Entries.{is_empty}
use Rattle.resolution_check.specs.Trails.{value_of, is_value, holds, fails, IsSettled}
use Rattle.resolution_check.proofs.Literals.{same_lit}
use Rattle.clause_arena.specs.Links.{word}
use Rattle.mw_text.specs.Members.{In}
use Rattle.clause_arena.specs.Store.{Store, IsSound}
use Rattle.clause_arena.specs.Held.{lit_of, lits_of, held_in, clause_numbered}
use Rattle.clause_arena.proofs.Views.{lits_listed}
use Rattle.conflict_analysis.specs.Steps.{OpensLevel}
use Rattle.conflict_analysis.specs.Levels.{count_to, AreFilled, AreFull}
use Rattle.conflict_analysis.proofs.Followed.{front_fails}
use Rattle.conflict_analysis.proofs.Levels.{count_low}
use Rattle.conflict_analysis.proofs.Marked.{has_at}
use Rattle.watched_search.specs.Watches.{literal, AreWatched, IsKept}

-- ---- held clauses

-- the clause of a number stands at a reference
pub record IsAt (refs : List ℕ) (f : ℕ → (ℕ × List Lit)) (c : Clause) : Type 0 where
  pub ref : ℕ
  pub held : In ref refs
  pub same : c ≡ record { lits = (f ref).1 }

pub numbered_at : (f : ℕ → (ℕ × List Lit)) (refs : List ℕ) (id : ℕ) (c : Clause)
    → clause_numbered (map f refs) id ≡ Some c → IsAt refs f c
numbered_at f [] id c h = absurd (cc)
numbered_at f (r ∷ refs) id c h = elim (cases_Bool ((f r).0 == id)) [
  | inl here ↦
      let e : Some (record { lits = (f r).1 }) ≡ Some c =
      sym (ap (λ b. cond b (Some (record { lits = (f r).1 })) (clause_numbered (map f refs) id)) here) ∙ h in
      record { ref = r; held = inl refl; same = (cc) }
  | inr other ↦
      let found = numbered_at f refs id c
      (sym (ap (λ b. cond b (Some (record { lits = (f r).1 })) (clause_numbered (map f refs) id)) other) ∙ h) in
      record { ref = found.ref; held = inr found.held; same = found.same }
]

-- two codes of one literal are one
pub same_code : (x y : ℕ) → lit_of x ≡ lit_of y → x ≡ y
same_code x y e =
    let half : x / 2 ≡ y / 2 = ap (λ (l : Lit). l.var) e in
    let sign : (x % 2 == 1) ≡ (y % 2 == 1) = ap (λ (l : Lit). l.negated) e in
    elim (cases_Bool (x % 2 == 1)) [
      | inl odd ↦
          let one : x % 2 ≡ 1 = eqb-true (x % 2) 1 odd in
          let two : y % 2 ≡ 1 = eqb-true (y % 2) 1 (sym sign ∙ odd) in omega arith
      | inr even ↦
          let other : (y % 2 == 1) ≡ false = sym sign ∙ even in
          let one : x % 2 ≡ 0 = zero_from x even in
          let two : y % 2 ≡ 0 = zero_from y other in omega arith
    ]
  where
    zero_from : (n : ℕ) → (n % 2 == 1) ≡ false → n % 2 ≡ 0
    zero_from n h = elim (cases_lt 0 (n % 2)) [
      | inl odd ↦
          let one : n % 2 ≡ 1 = omega arith in
          absurd (true≢false (sym (ap (λ k. k == 1) one) ∙ h))
      | inr low ↦ omega arith
    ]

-- a literal that is neither true nor false has no value
pub free_of : (ls : List Lit) (l : Lit) → fails ls l ≡ false → holds ls l ≡ false → value_of ls l.var ≡ None
free_of ls l f h = by (value_of ls l.var) l.negated f h
  where
    by : (o : Option Bool) (n : Bool) → is_value o n ≡ false → is_value o (not n) ≡ false → o ≡ None
    by None n g k = refl
    by (Some true) true g k = absurd (true≢false g)
    by (Some true) false g k = absurd (true≢false k)
    by (Some false) true g k = absurd (true≢false k)
    by (Some false) false g k = absurd (true≢false g)

-- what is true under fewer steps is true under more
pub holds_more : (m n : ℕ) (ls : List Lit) (l : Lit) → m ≤ n → holds (take m ls) l ≡ true → holds (take n ls) l ≡ true
holds_more m n ls l low h =
    front_fails (take n ls) m (opposite l) (ap (λ ms. holds ms l) (take-take m n ls low) ∙ h)

module _ (a : Store) (sound : IsSound a.vars a.words a.refs) (st : List Lit)
    (filled : (r : ℕ) → In r a.refs → 1 ≤ word a.words r)
    (ones : (r : ℕ) → In r a.refs → word a.words r ≡ 1 → holds st (literal a r 0) ≡ true)
    (watched : AreWatched a st st) where
  inside : (r k : ℕ) → In r a.refs → k < word a.words r → has (lits_of a r) (literal a r k) ≡ true
  inside r k i low =
      has_at (lits_of a r) k (literal a r k)
      (lits_listed a.vars a.words a.refs r k (word a.words (r + 4 + k)) sound i low refl)

  is_true : (r k : ℕ) → In r a.refs → k < word a.words r → holds st (literal a r k) ≡ true
      → IsSettled st (lits_of a r)
  is_true r k i low h = inl (record { lit = literal a r k; inside = inside r k i low; is_true = h })

  -- two literals that are neither true nor false
  two_free : (r : ℕ) → In r a.refs → 2 ≤ word a.words r → fails st (literal a r 0) ≡ false
      → fails st (literal a r 1) ≡ false → holds st (literal a r 0) ≡ false → holds st (literal a r 1) ≡ false
      → IsSettled st (lits_of a r)
  two_free r i two f0 f1 h0 h1 = inr (record {
    one = literal a r 0;
    two = literal a r 1;
    inside_one = inside r 0 i (omega arith);
    inside_two = inside r 1 i (omega arith);
    apart = elim (cases_Bool (is_same (literal a r 0) (literal a r 1))) [
      | inl same ↦
          let e : word a.words (r + 4 + 0) ≡ word a.words (r + 4 + 1) =
          same_code (word a.words (r + 4 + 0)) (word a.words (r + 4 + 1))
          (same_lit (literal a r 0) (literal a r 1) same) in
          let z : 0 ≡ 1 = sound.laid.differ r 0 1 i (omega arith) (omega arith) e in absurd (omega arith)
      | inr other ↦ other
    ];
    free_one = free_of st (literal a r 0) f0 h0;
    free_two = free_of st (literal a r 1) f1 h1;
  })

  by_watches : (r : ℕ) → In r a.refs → 2 ≤ word a.words r → IsSettled st (lits_of a r)
  by_watches r i two = elim (cases_Bool (fails st (literal a r 0))) [
    | inl falls ↦ is_true r 1 i (omega arith) (watched r 0 i two (omega arith) falls)
    | inr f0 ↦ elim (cases_Bool (fails st (literal a r 1))) [
      | inl falls ↦ is_true r 0 i (omega arith) (watched r 1 i two (omega arith) falls)
      | inr f1 ↦ elim (cases_Bool (holds st (literal a r 0))) [
        | inl h ↦ is_true r 0 i (omega arith) h
        | inr h0 ↦ elim (cases_Bool (holds st (literal a r 1))) [
          | inl h ↦ is_true r 1 i (omega arith) h
          | inr h1 ↦ two_free r i two f0 f1 h0 h1
        ]
      ]
    ]
  ]

  -- each clause that is held is settled
  pub settled : (id : ℕ) (c : Clause) → held_in a id ≡ Some c → IsSettled st c.lits
  settled id c held =
      let at = numbered_at (λ r. (word a.words (r + 1), lits_of a r)) a.refs id c held in
      let some : 1 ≤ word a.words at.ref = filled at.ref at.held in
      subst (λ (k : Clause). IsSettled st k.lits) (sym at.same) (elim (cases_lt 1 (word a.words at.ref)) [
        | inl two ↦ by_watches at.ref at.held (omega arith)
        | inr one ↦
            let e : word a.words at.ref ≡ 1 = omega arith in
            is_true at.ref 0 at.held (omega arith) (ones at.ref at.held e)
      ])

-- no clause that is held is empty
pub all_filled : (a : Store) → IsSound a.vars a.words a.refs → ((r : ℕ) → In r a.refs → 1 ≤ word a.words r)
    → AreFilled a
all_filled a sound filled id c held =
    let at = numbered_at (λ r. (word a.words (r + 1), lits_of a r)) a.refs id c held in
    let some : 1 ≤ word a.words at.ref = filled at.ref at.held in
    subst (λ (d : Clause). is_empty d.lits ≡ false) (sym at.same)
    (not_empty (lits_of a at.ref) (literal a at.ref 0)
    (has_at (lits_of a at.ref) 0 (literal a at.ref 0)
    (lits_listed a.vars a.words a.refs at.ref 0 (word a.words (at.ref + 4 + 0)) sound at.held (omega arith) refl)))
  where
    not_empty : (ls : List Lit) (l : Lit) → has ls l ≡ true → is_empty ls ≡ false
    not_empty [] l h = absurd (false≢true h)
    not_empty (x ∷ ls) l h = refl

module _ (a : Store) (sound : IsSound a.vars a.words a.refs) (steps : List Lit) (levels : List ℕ) (head : ℕ)
    (k : IsKept a steps levels head) where
  -- a step that opens a level comes behind level 0
  behind_ground : (at : ℕ) → OpensLevel levels at → count_to levels 0 ≤ at
  behind_ground at opens = elim (cases_lt at (count_to levels 0)) [
    | inl early ↦
        let low : word levels at ≤ 0 = count_low levels 0 at early in
        let high : 0 < word levels at = opens.above in absurd (omega arith)
    | inr late ↦ late
  ]

  -- before each decision every clause that is held was settled, as an analysis asks it
  pub full : AreFull a steps levels
  full at id c within opens held =
      settled a sound (take at steps) k.filled
      (λ r i one. holds_more (count_to levels 0) at steps (literal a r 0) (behind_ground at opens) (k.ones r i one))
      (k.before at within opens) id c held

  -- and so it is now, once all steps were looked at
  pub settled_now : length steps ≤ head → (id : ℕ) (c : Clause) → held_in a id ≡ Some c → IsSettled steps c.lits
  settled_now past id c held =
      let all : take head steps ≡ steps = take_all head steps past in
      settled a sound steps k.filled
      (λ r i one. front_fails steps (count_to levels 0) (opposite (literal a r 0)) (k.ones r i one))
      (λ r side i two low falls. k.now r side i two low
      (ap (λ ls. fails ls (literal a r side)) all ∙ falls)) id c held

  pub none_empty : AreFilled a
  none_empty = all_filled a sound k.filled
