-- The bumps of a search's additions.
use Rattle.std.proofs.Common.{◌≡◌, ◌⊎◌, ℕ, ◌+◌, ◌/◌, ◌%◌, ◌==◌, ◌<◌, true, false, cond, List, [], ◌∷◌, ◌++◌}
use Rattle.std.proofs.Common.{length, append_assoc, slice_get, Option, Some, inl, inr, refl, sym, ap, subst, ◌∙◌, arith}
use Rattle.std.proofs.Common.{add-zero, eqb-true, get_or, map, None, set, suc, take, zero}
use Rattle.std.specs.Prelude.{IfSome}
use Rattle.deciders.specs.Told.{TellsBump}
use Rattle.std.proofs.lemmas.Bool.{cases_Bool, cases_lt, eq-eqb, false≢true}
use Rattle.std.proofs.lemmas.List.{append-nil, length-map, length-set, map-append}
use Rattle.std.proofs.lemmas.Option.{same_Some, slice_get_within}
use Rattle.resolution_check.specs.declared.log.Lit.{Lit}
use Rattle.resolution_check.specs.declared.log.Clause.{Clause}
use Rattle.resolution_check.specs.declared.log.Entry.{Entry}
use Rattle.resolution_check.specs.declared.log.Entry.TheVariants.{Input, Add, Delete, End}
use Rattle.resolution_check.specs.Entries.{addition_count, additions_in}
use Rattle.std.proofs.lemmas.List.Sums.{sum_by-cons}
use Rattle.mw_text.proofs.Found.{take_at}
use Rattle.cdcl_search.specs.Outcomes.{input_entries}
use Rattle.cdcl_search.specs.Turns.{AreUntold, IsTurn, TellBumps, TellsAt, TellsMore, bumps_of, vars_of}
use Rattle.watched_search.proofs.Places.{slice_get-set_other, slice_get-set_same}

-- inputs are no additions
pub untold_inputs : (tolds : List (Option (List ℕ))) → AreUntold tolds → (id : ℕ) (cs : List Clause)
    → TellBumps tolds (input_entries id cs)
untold_inputs tolds untold id cs own bumps there = untold own bumps there ∙ sym (none id cs)
  where
    none : (n : ℕ) (ds : List Clause) → bumps_of (length tolds) own 0 (input_entries n ds) ≡ []
    none n [] = refl
    none n (d ∷ ds) = none (n + 1) ds

-- the first decider has the first turn
pub first_turn : (deciders : ℕ) → IsTurn deciders 0 0
first_turn deciders some = omega arith

-- the bumps of one addition
abbrev bumps_by : (deciders own added : ℕ) → Clause → List ℕ
bumps_by deciders own added c = cond ((added / 256) % deciders == own) (vars_of c.lits) []

-- one addition more
bumps_push : (n own added : ℕ) (es : List Entry) (id : ℕ) (c : Clause) (chain : List ℕ)
    → bumps_of n own added (es ++ Add id c chain ∷ [])
    ≡ bumps_of n own added es ++ bumps_by n own (added + addition_count es) c
bumps_push n own added [] id c chain =
    append-nil (bumps_by n own added c) ∙ ap (λ k. bumps_by n own k c) (sym (add-zero added))
bumps_push n own added (Input i d ∷ es) id c chain = bumps_push n own added es id c chain
bumps_push n own added (Add i d ch ∷ es) id c chain =
    let one : addition_count (Add i d ch ∷ es) ≡ 1 + addition_count es = sum_by-cons additions_in (Add i d ch) es in
    let same : added + 1 + addition_count es ≡ added + addition_count (Add i d ch ∷ es) = omega arith in
    ap (λ xs. bumps_by n own added d ++ xs) (bumps_push n own (added + 1) es id c chain)
    ∙ sym (append_assoc (bumps_by n own added d) (bumps_of n own (added + 1) es)
    (bumps_by n own (added + 1 + addition_count es) c))
    ∙ ap (λ k. (bumps_by n own added d ++ bumps_of n own (added + 1) es) ++ bumps_by n own k c) same
bumps_push n own added (Delete i ∷ es) id c chain = bumps_push n own added es id c chain
bumps_push n own added (End ∷ es) id c chain = bumps_push n own added es id c chain

-- the decider whose turn it was is told of one addition more
pub bumps_more : (old new : List (Option (List ℕ))) (es : List Entry) (id : ℕ) (c : Clause) (chain : List ℕ) (turn : ℕ)
    → IsTurn (length old) (addition_count es) turn → TellsAt old new turn (vars_of c.lits) → TellBumps old es
    → TellBumps new (es ++ Add id c chain ∷ [])
bumps_more old new es id c chain turn is_turn tells bumps own told there =
    subst (λ n. told ≡ bumps_of n own 0 (es ++ Add id c chain ∷ [])) (sym tells.count)
    (by (cases_Bool ((addition_count es / 256) % length old == own)) ∙ sym pushed)
  where
    pushed : bumps_of (length old) own 0 (es ++ Add id c chain ∷ [])
        ≡ bumps_of (length old) own 0 es ++ bumps_by (length old) own (addition_count es) c
    pushed =
        let none : 0 + addition_count es ≡ addition_count es = omega arith in
        bumps_push (length old) own 0 es id c chain
        ∙ ap (λ k. bumps_of (length old) own 0 es ++ bumps_by (length old) own k c) none

    some : 0 < length old
    some =
        let low : own < length new = slice_get_within new own (Some told) there in
        let same : length new ≡ length old = tells.count in omega arith

    by : (((addition_count es / 256) % length old == own) ≡ true)
        ⊎ (((addition_count es / 256) % length old == own) ≡ false)
        → told ≡ bumps_of (length old) own 0 es ++ bumps_by (length old) own (addition_count es) c
    by (inl here) =
        let mine : turn ≡ own = is_turn some ∙ eqb-true _ own here in
        let x = tells.own told (ap (slice_get new) mine ∙ there) in
        x.2 ∙ ap (λ xs. xs ++ vars_of c.lits) (bumps own x.0 (ap (slice_get old) (sym mine) ∙ x.1))
        ∙ ap (λ b. bumps_of (length old) own 0 es ++ cond b (vars_of c.lits) []) (sym here)
    by (inr other) =
        let apart : own ≡ turn → ⊥ =
        λ e. false≢true (sym other ∙ eq-eqb _ own (sym (is_turn some) ∙ sym e)) in
        bumps own told (sym (tells.others own apart) ∙ there)
        ∙ sym (append-nil (bumps_of (length old) own 0 es))
        ∙ ap (λ b. bumps_of (length old) own 0 es ++ cond b (vars_of c.lits) []) (sym other)

-- ---- one decider of a list

-- what the item at a place is mapped to
pub map_at : {X Y : Type 0} (f : X → Y) (xs : List X) (i : ℕ) (x d : X) → i < length xs → x ≡ get_or xs i d
    → slice_get (map f xs) i ≡ Some (f x)
map_at f [] i x d low is = absurd (omega arith)
map_at f (z ∷ xs) zero x d low is = ap (λ y. Some (f y)) (sym is)
map_at f (z ∷ xs) (suc i) x d low is = map_at f xs i x d (omega arith) is

-- the decider at a place was told of variables
pub tells_set : (tolds : List (Option (List ℕ))) (at : ℕ) (old new : Option (List ℕ)) (vars : List ℕ)
    → at < length tolds → slice_get tolds at ≡ Some old → TellsMore old new vars
    → TellsAt tolds (set tolds at new) at vars
tells_set tolds at old new vars low there more = record {
  count = length-set tolds at new;
  own = λ bumps now.
      (let e : new ≡ Some bumps = same_Some _ _ (sym (slice_get-set_same tolds at new low) ∙ now) in
      let x = more bumps e in
      (x.0, there ∙ ap Some x.1, x.2));
  others = λ i apart. slice_get-set_other tolds at i new apart;
}

-- one decider more was made ready
pub untold_next : (tolds : List (Option (List ℕ))) (at : ℕ) (new : Option (List ℕ))
    → ((own : ℕ) (bumps : List ℕ) → own < at → slice_get tolds own ≡ Some (Some bumps) → bumps ≡ [])
    → IfSome new (λ bumps. bumps ≡ []) → (own : ℕ) (bumps : List ℕ) → own < at + 1
    → slice_get (set tolds at new) own ≡ Some (Some bumps) → bumps ≡ []
untold_next tolds at new before none own bumps low there = elim (cases_lt own at) [
  | inl less ↦
      let apart : own ≡ at → ⊥ = λ e. omega arith in
      before own bumps less (sym (slice_get-set_other tolds at own new apart) ∙ there)
  | inr last ↦
      let same : own ≡ at = omega arith in
      let within : own < length (set tolds at new) = slice_get_within (set tolds at new) own (Some bumps) there in
      let long : length (set tolds at new) ≡ length tolds = length-set tolds at new in
      let is : Some new ≡ Some (Some bumps) =
      sym (slice_get-set_same tolds at new (omega arith)) ∙ ap (slice_get (set tolds at new)) (sym same) ∙ there in
      subst (λ (o : Option (List ℕ)). IfSome o (λ b. b ≡ [])) (same_Some _ _ is) none
]

-- as many deciders tell the same
pub tolds_long : {A : Type 0} (f : A → Option (List ℕ)) (old new : List A) → map f new ≡ map f old
    → length new ≡ length old
tolds_long f old new same = sym (length-map new f) ∙ ap length same ∙ length-map old f

-- there is no decider at the place
pub tells_none : (tolds : List (Option (List ℕ))) (at : ℕ) (vars : List ℕ) → (at < length tolds → ⊥)
    → TellsAt tolds tolds at vars
tells_none tolds at vars past = record {
  count = refl;
  own = λ bumps now. absurd (past (slice_get_within tolds at (Some bumps) now));
  others = λ i apart. refl;
}

-- one variable more
pub more_push : (first old new : Option (List ℕ)) (vars : List ℕ) (var : ℕ) → TellsMore first old vars
    → TellsBump old new var → TellsMore first new (vars ++ var ∷ [])
more_push first None new vars var more one bumps is =
    let clash : None ≡ Some bumps = subst (λ (o : Option (List ℕ)). IfSome o (λ b. None ≡ Some b)) is one in absurd (cc)
more_push first (Some x) new vars var more one bumps is =
    let same : Some (x ++ var ∷ []) ≡ Some bumps =
    subst (λ (o : Option (List ℕ)). IfSome o (λ b. Some (x ++ var ∷ []) ≡ Some b)) is one in
    let y = more x refl in
    (y.0, y.1, sym (same_Some _ _ same) ∙ ap (λ b. b ++ var ∷ []) y.2 ∙ append_assoc y.0 vars (var ∷ []))

-- the variables of the first literals and of the next one
pub vars_next : (lits : List Lit) (i : ℕ) (l : Lit) → slice_get lits i ≡ Some l
    → vars_of (take (i + 1) lits) ≡ vars_of (take i lits) ++ l.var ∷ []
vars_next lits i l there =
    ap vars_of (take_at lits i l there) ∙ map-append (λ (k : Lit). k.var) (take i lits) (l ∷ [])
