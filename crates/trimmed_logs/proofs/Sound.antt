-- The trimmed list refutes.
use Rattle.std.proofs.Common.{◌≡◌, ◌∙◌, ◌⊎◌, refl, ap, ap₂, sym, subst, arith, ℕ, ◌+◌, ◌<◌, ◌==◌, Bool, true, false, ◌||◌, cond}
use Rattle.std.proofs.Common.{List, [], ◌∷◌, ◌++◌, map, Option, Some, None, is_some, inl, inr, append_assoc}
use Rattle.std.specs.Option.{option_or}
use Rattle.std.specs.List.{list_any}
use Rattle.std.proofs.lemmas.Bool.{cases_Bool, false_from_ne_true, eqb-true, or_left, or_right, true≢false, false≢true}
use Rattle.std.proofs.lemmas.List.{append-nil}
use Rattle.resolution_check.specs.declared.log.Clause.{Clause}
use Rattle.resolution_check.specs.declared.log.Entry.{Entry}
use Rattle.resolution_check.specs.declared.log.Entry.TheVariants.{Input, Add, Delete, End}
use Rattle.resolution_check.specs.Entries.{EachAfter, IsSound, KeepsGood, clause_by, clause_given}
use Rattle.resolution_check.specs.Entries.{clause_held, deletes, has_ended, is_deleted, is_end, is_given}
use Rattle.resolution_check.proofs.Goods.{any-push, clause_given-push, given_of_held}
use Rattle.trimmed_logs.specs.Trimmed.{is_addition, is_input, is_used_by, uses}
use Rattle.trimmed_logs.specs.Kept.{kept, numbered, with_name}
use Rattle.trimmed_logs.proofs.Chains.{AreNamed, is_among, resolved_named}
use Rattle.trimmed_logs.proofs.Keeping.{kept-used, kept-unused, kept-none}
use Rattle.trimmed_logs.proofs.Naming.{numbered-add, numbered-none}

-- ---- lists in which each entry is in a relation to those before it

module _ (R : List Entry → Entry → Type 0) where
  -- the entries in front
  pub each_front : (before xs ys : List Entry) → EachAfter R before (xs ++ ys) → EachAfter R before xs
  each_front before [] ys h = tt
  each_front before (x ∷ xs) ys h = (h.0, each_front (before ++ x ∷ []) xs ys h.1)

  -- and those behind
  pub each_back : (before xs ys : List Entry) → EachAfter R before (xs ++ ys) → EachAfter R (before ++ xs) ys
  each_back before [] ys h = subst (λ (es : List Entry). EachAfter R es ys) (sym (append-nil before)) h
  each_back before (x ∷ xs) ys h =
      subst (λ (es : List Entry). EachAfter R es ys) (append_assoc before (x ∷ []) xs)
      (each_back (before ++ x ∷ []) xs ys h.1)

  -- both make the whole
  pub each_both : (before xs ys : List Entry) → EachAfter R before xs → EachAfter R (before ++ xs) ys →
      EachAfter R before (xs ++ ys)
  each_both before [] ys h k = subst (λ (es : List Entry). EachAfter R es ys) (append-nil before) k
  each_both before (x ∷ xs) ys h k = (
    h.0,
    each_both (before ++ x ∷ []) xs ys h.1
        (subst (λ (es : List Entry). EachAfter R es ys) (sym (append_assoc before (x ∷ []) xs)) k),
  )

-- ---- what is given after one entry more

pub given_cases : (done : List Entry) (e : Entry) (id : ℕ) (c : Clause) → clause_given (done ++ e ∷ []) id ≡ Some c →
    (clause_given done id ≡ Some c) ⊎ ((clause_given done id ≡ None) × (clause_by id e ≡ Some c))
given_cases done e id c h = split (clause_given done id) refl (sym (clause_given-push done e id) ∙ h)
  where
    split : (o : Option Clause) → clause_given done id ≡ o → option_or o (clause_by id e) ≡ Some c →
        (clause_given done id ≡ Some c) ⊎ ((clause_given done id ≡ None) × (clause_by id e ≡ Some c))
    split None is k = inr (is, k)
    split (Some d) is k = inl (is ∙ k)

pub given_stays : (done : List Entry) (e : Entry) (id : ℕ) (c : Clause) → clause_given done id ≡ Some c →
    clause_given (done ++ e ∷ []) id ≡ Some c
given_stays done e id c h = clause_given-push done e id ∙ ap (λ o. option_or o (clause_by id e)) h

pub given_now : (done : List Entry) (e : Entry) (id : ℕ) (c : Clause) → clause_given done id ≡ None →
    clause_by id e ≡ Some c → clause_given (done ++ e ∷ []) id ≡ Some c
given_now done e id c none h =
    clause_given-push done e id ∙ ap (λ o. option_or o (clause_by id e)) none ∙ h

pub not_given : (es : List Entry) (id : ℕ) → is_given es id ≡ false → clause_given es id ≡ None
not_given es id h = split (clause_given es id) refl h
  where
    split : (o : Option Clause) → clause_given es id ≡ o → is_some o ≡ false → clause_given es id ≡ None
    split None is k = is
    split (Some c) is k = absurd (true≢false k)

-- and what is given is held where nothing is deleted
pub held_given : (es : List Entry) (id : ℕ) (c : Clause) → is_deleted es id ≡ false → clause_given es id ≡ Some c →
    clause_held es id ≡ Some c
held_given es id c none h = ap (λ b. cond b None (clause_given es id)) none ∙ h

-- ---- from the given list to the trimmed one

-- After the entries that are done the numbers of out are below the next one, none is deleted and out has not ended; and
-- each clause that a later addition needs is given in out under its name.
pub record IsNamed (next : ℕ) (names : ℕ → ℕ) (done out es : List Entry) (last : Entry) : Type 0 where
  pub below : (id : ℕ) → is_given out id ≡ true → id < next
  pub whole : (id : ℕ) → is_deleted out id ≡ false
  pub open_end : has_ended out ≡ false
  pub named : (id : ℕ) (c : Clause) → list_any (uses id) (kept last es ++ last ∷ []) ≡ true →
      clause_given done id ≡ Some c → clause_given out (names id) ≡ Some c

-- the next number is new
pub next_new : (next : ℕ) (out : List Entry) → ((id : ℕ) → is_given out id ≡ true → id < next) →
    is_given out next ≡ false
next_new next out below =
    false_from_ne_true (is_given out next) (λ h. let k : next < next = below next h in absurd (omega (arith, k)))

-- an addition under the next number, with the names of its chain, keeps out good
pub add_sound : (next : ℕ) (names : ℕ → ℕ) (done out : List Entry) (id : ℕ) (clause : Clause) (chain : List ℕ) →
    ((n : ℕ) → is_given out n ≡ true → n < next) → ((n : ℕ) → is_deleted out n ≡ false) → has_ended out ≡ false →
    ((n : ℕ) (c : Clause) → is_among chain n ≡ true → clause_given done n ≡ Some c →
    clause_given out (names n) ≡ Some c) →
    IsSound done (Add id clause chain) → KeepsGood out (Add next clause (map names chain))
add_sound next names done out id clause chain below whole open_end named (new, r, is, inside) =
    let names_held : AreNamed (clause_held done) (clause_held out) names chain =
    λ n c among h. held_given out (names n) c (whole (names n)) (named n c among (given_of_held done n c h)) in (
      open_end,
      (
        next_new next out below,
        r,
        resolved_named (clause_held done) (clause_held out) names chain r
            names_held is,
        inside,
      ),
    )

module _ (next : ℕ) (names : ℕ → ℕ) (done out es : List Entry) (last : Entry) where
  -- an entry that does not stay and gives no clause that is needed
  step_none : (e : Entry) → ((id : ℕ) → clause_by id e ≡ None) → is_used_by (kept last es ++ last ∷ []) e ≡ false →
      IsNamed next names done out (e ∷ es) last → IsNamed next names (done ++ e ∷ []) out es last
  step_none e none unused s = record {
    below = s.below;
    whole = s.whole;
    open_end = s.open_end;
    named = λ id c needed given. elim (given_cases done e id c given) [
      | inl old ↦ s.named id c
          (ap (λ ks. list_any (uses id) (ks ++ last ∷ [])) (kept-unused last e es unused) ∙ needed) old
      | inr new ↦ absurd (no_clause id c (sym (none id) ∙ new.1))
    ];
  }
    where
      no_clause : (id : ℕ) (c : Clause) → None ≡ Some c → ⊥
      no_clause id c h = absurd (cc)

  module _ (own : ℕ) (clause : Clause) (chain : List ℕ) where
    own_clause : (id : ℕ) (c : Clause) → clause_by id (Add own clause chain) ≡ Some c →
        ((own == id) ≡ true) × (clause ≡ c)
    own_clause id c h = split (own == id) refl h
      where
        split : (b : Bool) → (own == id) ≡ b → cond b (Some clause) None ≡ Some c → ((own == id) ≡ true) × (clause ≡ c)
        split true is k = (is, cc)
        split false is k = absurd (cc)

    -- an addition that does not stay
    step_unused : is_used_by (kept last es ++ last ∷ []) (Add own clause chain) ≡ false →
        IsNamed next names done out (Add own clause chain ∷ es) last →
        IsNamed next names (done ++ Add own clause chain ∷ []) out es last
    step_unused unused s = record {
      below = s.below;
      whole = s.whole;
      open_end = s.open_end;
      named = λ id c needed given. elim (given_cases done (Add own clause chain) id c given) [
        | inl old ↦ s.named id c
            (ap (λ ks. list_any (uses id) (ks ++ last ∷ [])) (kept-unused last (Add own clause chain) es unused)
            ∙ needed) old
        | inr new ↦ let is : own ≡ id = eqb-true own id (own_clause id c new.1).0 in
            absurd (true≢false (sym needed ∙ ap (λ n. list_any (uses n) (kept last es ++ last ∷ [])) (sym is) ∙ unused))
      ];
    }

    -- an addition that stays
    step_used : is_used_by (kept last es ++ last ∷ []) (Add own clause chain) ≡ true → is_given done own ≡ false →
        IsNamed next names done out (Add own clause chain ∷ es) last →
        IsNamed (next + 1) (with_name names own next) (done ++ Add own clause chain ∷ [])
        (out ++ Add next clause (map names chain) ∷ []) es last
    step_used used new s = record {
      below = below;
      whole = λ id. any-push (deletes id) out (Add next clause (map names chain)) ∙ ap (λ b. b || false) (s.whole id);
      open_end = any-push is_end out (Add next clause (map names chain)) ∙ ap (λ b. b || false) s.open_end;
      named = λ id c needed given. elim (given_cases done (Add own clause chain) id c given) [
        | inl old ↦ other id c old (s.named id c (still id needed) old)
        | inr now ↦ this id c (own_clause id c now.1)
      ];
    }
      where
        still : (id : ℕ) → list_any (uses id) (kept last es ++ last ∷ []) ≡ true →
            list_any (uses id) (kept last (Add own clause chain ∷ es) ++ last ∷ []) ≡ true
        still id needed =
            ap (λ ks. list_any (uses id) (ks ++ last ∷ [])) (kept-used last (Add own clause chain) es used)
            ∙ or_right (is_among chain id) (list_any (uses id) (kept last es ++ last ∷ [])) needed

        below : (id : ℕ) → is_given (out ++ Add next clause (map names chain) ∷ []) id ≡ true → id < next + 1
        below id h = split (clause_given out id) refl
            (sym (ap is_some (clause_given-push out (Add next clause (map names chain)) id)) ∙ h)
          where
            split : (o : Option Clause) → clause_given out id ≡ o →
                is_some (option_or o (cond (next == id) (Some clause) None)) ≡ true → id < next + 1
            split (Some c) is k = let less : id < next = s.below id (ap is_some is) in omega (arith, less)
            split None is k = by_test (next == id) refl k
              where
                by_test : (b : Bool) → (next == id) ≡ b → is_some (cond b (Some clause) None) ≡ true → id < next + 1
                by_test true same l = let is_same : next ≡ id = eqb-true next id same in omega (arith, is_same)
                by_test false same l = absurd (false≢true l)

        other : (id : ℕ) (c : Clause) → clause_given done id ≡ Some c → clause_given out (names id) ≡ Some c →
            clause_given (out ++ Add next clause (map names chain) ∷ []) (with_name names own next id) ≡ Some c
        other id c old there = by_test (own == id) refl
          where
            by_test : (b : Bool) → (own == id) ≡ b →
                clause_given (out ++ Add next clause (map names chain) ∷ []) (cond b next (names id)) ≡ Some c
            by_test false is = given_stays out (Add next clause (map names chain)) (names id) c there
            by_test true is =
                let given : is_given done own ≡ true =
                ap (is_given done) (eqb-true own id is) ∙ ap is_some old in
                absurd (true≢false (sym given ∙ new))

        this : (id : ℕ) (c : Clause) → ((own == id) ≡ true) × (clause ≡ c) →
            clause_given (out ++ Add next clause (map names chain) ∷ []) (with_name names own next id) ≡ Some c
        this id c (same, is) =
            ap (λ b. clause_given (out ++ Add next clause (map names chain) ∷ []) (cond b next (names id))) same
            ∙ given_now out (Add next clause (map names chain)) next c (not_given out next (next_new next out s.below))
            (ap (λ b. cond b (Some clause) None) (same_self next) ∙ ap Some is)
          where
            same_self : (n : ℕ) → (n == n) ≡ true
            same_self n = grind arith

-- what was done stays in front
pub front_more : (P : List Entry → Type 0) (out : List Entry) (e : Entry) (es : List Entry) →
    P ((out ++ e ∷ []) ++ es) → P (out ++ (e ∷ es))
front_more P out e es h = subst P (append_assoc out (e ∷ []) es) h

-- ---- the additions that stay keep the inputs good

module _ (last : Entry) where
  pub sound_from : (es : List Entry) (next : ℕ) (names : ℕ → ℕ) (done out : List Entry) →
      EachAfter KeepsGood done (es ++ last ∷ []) → list_any is_input es ≡ false → is_addition last ≡ true →
      IsNamed next names done out es last →
      EachAfter KeepsGood out (numbered next names (kept last es ++ last ∷ []))
  sound_from [] next names done out good none adds s = at_last last refl
    where
      at_last : (l : Entry) → last ≡ l → EachAfter KeepsGood out (numbered next names (kept last [] ++ last ∷ []))
      at_last (Add id clause chain) is =
          let stays : kept last [] ++ last ∷ [] ≡ Add id clause chain ∷ [] =
          ap₂ (λ ks l. ks ++ l ∷ []) (kept-none last) is in
          let all : numbered next names (kept last [] ++ last ∷ []) ≡ Add next clause (map names chain) ∷ [] =
          ap (numbered next names) stays ∙ numbered-add next names id clause chain []
          ∙ ap (λ xs. Add next clause (map names chain) ∷ xs)
          (numbered-none (next + 1) (with_name names id next)) in
          let S : Entry → Type 0 = λ l. IsSound done l in
          subst (λ (xs : List Entry). EachAfter KeepsGood out xs) (sym all) (
            add_sound next names done out id clause chain s.below s.whole s.open_end
                (λ n c among given. s.named n c (ap (λ ks. list_any (uses n) ks) stays ∙ or_left (is_among chain n) false among)
                given) (subst S is good.0.1),
            tt,
          )
      at_last (Input id clause) is = absurd (false≢true (ap is_addition (sym is) ∙ adds))
      at_last (Delete id) is = absurd (false≢true (ap is_addition (sym is) ∙ adds))
      at_last End is = absurd (false≢true (ap is_addition (sym is) ∙ adds))
  sound_from (Input id clause ∷ es) next names done out good none adds s = absurd (true≢false none)
  sound_from (Add id clause chain ∷ es) next names done out good none adds s =
      elim (cases_Bool (is_used_by (kept last es ++ last ∷ []) (Add id clause chain))) [
        | inl used ↦
            let stays : kept last (Add id clause chain ∷ es) ++ last ∷ []
            ≡ Add id clause chain ∷ (kept last es ++ last ∷ []) =
            ap (λ ks. ks ++ last ∷ []) (kept-used last (Add id clause chain) es used) in
            let all : numbered next names (kept last (Add id clause chain ∷ es) ++ last ∷ [])
            ≡ Add next clause (map names chain) ∷ numbered (next + 1) (with_name names id next)
            (kept last es ++ last ∷ []) =
            ap (numbered next names) stays ∙ numbered-add next names id clause chain (kept last es ++ last ∷ []) in
            subst (λ (xs : List Entry). EachAfter KeepsGood out xs) (sym all) (
              add_sound next names done out id clause chain s.below s.whole s.open_end
                  (λ n c among given. s.named n c (ap (λ ks. list_any (uses n) ks) stays
                  ∙ or_left (is_among chain n) (list_any (uses n) (kept last es ++ last ∷ [])) among) given) good.0.1,
              sound_from es (next + 1) (with_name names id next) (done ++ Add id clause chain ∷ [])
                  (out ++ Add next clause (map names chain) ∷ []) good.1 none adds
                  (step_used next names done out es last id clause chain used good.0.1.0 s),
            )
        | inr unused ↦
            subst (λ (ks : List Entry). EachAfter KeepsGood out (numbered next names (ks ++ last ∷ [])))
            (sym (kept-unused last (Add id clause chain) es unused))
            (sound_from es next names (done ++ Add id clause chain ∷ []) out good.1 none adds
            (step_unused next names done out es last id clause chain unused s))
      ]
  sound_from (Delete id ∷ es) next names done out good none adds s =
      subst (λ (ks : List Entry). EachAfter KeepsGood out (numbered next names (ks ++ last ∷ [])))
      (sym (kept-unused last (Delete id) es refl))
      (sound_from es next names (done ++ Delete id ∷ []) out good.1 none adds
      (step_none next names done out es last (Delete id) (λ n. refl) refl s))
  sound_from (End ∷ es) next names done out good none adds s =
      subst (λ (ks : List Entry). EachAfter KeepsGood out (numbered next names (ks ++ last ∷ [])))
      (sym (kept-unused last End es refl))
      (sound_from es next names (done ++ End ∷ []) out good.1 none adds
      (step_none next names done out es last End (λ n. refl) refl s))
