-- Good lists: when an entry keeps a list good, and what holds of every good list.
use Rattle.std.proofs.Common.{◌≡◌, inl, inr, refl, sym, ◌∙◌, ap, subst, ℕ, Bool, true, false, ◌||◌, cond, List, []}
use Rattle.std.proofs.Common.{◌∷◌, ◌++◌, append_assoc, Option, Some, None, Result, Ok, Err, IsSome, is_some}
use Rattle.std.specs.Option.{option_or}
use Rattle.std.specs.List.{list_any}
use Rattle.std.proofs.lemmas.Bool.{cases_Bool, false≢true, or_cases, eqb-true}
use Rattle.std.proofs.lemmas.List.{append-nil}
use Rattle.std.proofs.lemmas.List.Folds.{list_any-append}
use Rattle.std.proofs.Math.Bool.{or-false}
use Rattle.resolution_check.specs.declared.log.Lit.{Lit}
use Rattle.resolution_check.specs.declared.log.Clause.{Clause}
use Rattle.resolution_check.specs.declared.log.Entry.{Entry}
use Rattle.resolution_check.specs.declared.log.Entry.TheVariants.{Input, Add, Delete, End}
use Rattle.resolution_check.specs.declared.log.Bad.{Bad}
use Rattle.resolution_check.specs.declared.log.Bad.TheVariants.{UnknownId, UsedId, AfterEnd}
use Rattle.resolution_check.specs.Clauses.{is_inside}
use Rattle.resolution_check.specs.Entries.{clause_by, deletes, clause_given, is_given, is_deleted, clause_held}
use Rattle.resolution_check.specs.Entries.{has_ended, resolved, cover_fault, entry_fault, fault_of, IsSound, KeepsGood}
use Rattle.resolution_check.specs.Entries.{EachAfter, IsGood}

-- ---- no fault exactly where the list stays good

no_cover_fault : (clause : List Lit) (answer : Result (List Lit) Bad) → cover_fault clause answer ≡ None
    → (r : List Lit) × (answer ≡ Ok r) × (is_inside r clause ≡ true)
no_cover_fault clause (Ok r) h =
    elim (cases_Bool (is_inside r clause)) [ inl inside ↦ (r, refl, inside) | inr outside ↦ absurd (cc) ]
no_cover_fault clause (Err bad) h = absurd (cc)

unless_true : {X : Type 0} (b : Bool) (x : X) (o : Option X) → cond b (Some x) o ≡ None → (b ≡ false) × (o ≡ None)
unless_true true x o h = absurd (cc)
unless_true false x o h = (refl, h)

sound_from : (es : List Entry) (e : Entry) → entry_fault (is_given es) (clause_held es) e ≡ None → IsSound es e
sound_from es (Input id clause) h = (unless_true (is_given es id) (UsedId id) None h).0
sound_from es (Add id clause chain) h =
    let both = unless_true (is_given es id) (UsedId id) (cover_fault clause.lits (resolved (clause_held es) chain)) h in
    let cover = no_cover_fault clause.lits (resolved (clause_held es) chain) both.1 in
    (both.0, cover.0, cover.1, cover.2)
sound_from es (Delete id) h = held (clause_held es id) h
  where
    held : (o : Option Clause) → cond (is_some o) None (Some (UnknownId id)) ≡ None → IsSome o
    held (Some c) h = refl
    held None h = absurd (cc)
sound_from es End h = tt

-- without a cause of refusal the list stays good
pub kept_from_free : (es : List Entry) (e : Entry) → fault_of es e ≡ None → KeepsGood es e
kept_from_free es e h =
    let both =
    unless_true (has_ended es) AfterEnd (entry_fault (is_given es) (clause_held es) e) h in
    (both.0, sound_from es e both.1)

free_from_sound : (es : List Entry) (e : Entry) → IsSound es e → entry_fault (is_given es) (clause_held es) e ≡ None
free_from_sound es (Input id clause) h = rw h refl
free_from_sound es (Add id clause chain) h = rw (h.0, h.2, h.3) refl
free_from_sound es (Delete id) h = held (clause_held es id) h
  where
    held : (o : Option Clause) → IsSome o → cond (is_some o) None (Some (UnknownId id)) ≡ None
    held (Some c) h = refl
    held None h = absurd (false≢true h)
free_from_sound es End h = refl

-- where the list stays good there is no cause of refusal
pub free_from_kept : (es : List Entry) (e : Entry) → KeepsGood es e → fault_of es e ≡ None
free_from_kept es e h = rw h.0 (free_from_sound es e h.1)

-- ---- lists in which each entry is in a relation to those before it

module _ (R : List Entry → Entry → Type 0) where
  each_from : (P : List Entry → Type 0) → ((es : List Entry) (e : Entry) → R es e → P es → P (es ++ e ∷ []))
      → (before es : List Entry) → EachAfter R before es → P before → P (before ++ es)
  each_from P step before [] h p = subst P (sym (append-nil before)) p
  each_from P step before (e ∷ es) h p =
      subst P (append_assoc before (e ∷ []) es) (each_from P step (before ++ e ∷ []) es h.1 (step before e h.0 p))

  -- what holds of the empty list, and is kept by each entry, holds of the list
  pub by_steps : (P : List Entry → Type 0) → P [] → ((es : List Entry) (e : Entry) → R es e → P es → P (es ++ e ∷ []))
      → (es : List Entry) → EachAfter R [] es → P es
  by_steps P start step es h = each_from P step [] es h start

  push_after : (before es : List Entry) (e : Entry) → EachAfter R before es → R (before ++ es) e
      → EachAfter R before (es ++ e ∷ [])
  push_after before [] e h k = (subst (λ front. R front e) (append-nil before) k, tt)
  push_after before (d ∷ es) e h k = (
    h.0,
    push_after (before ++ d ∷ []) es e h.1
        (subst (λ front. R front e) (sym (append_assoc before (d ∷ []) es)) k),
  )

  -- one entry more
  pub each_push : (es : List Entry) (e : Entry) → EachAfter R [] es → R es e → EachAfter R [] (es ++ e ∷ [])
  each_push es e h k = push_after [] es e h k

  last_after : (before es : List Entry) (e : Entry) → EachAfter R before (es ++ e ∷ []) → R (before ++ es) e
  last_after before [] e h = subst (λ front. R front e) (sym (append-nil before)) h.0
  last_after before (d ∷ es) e h =
      subst (λ front. R front e) (append_assoc before (d ∷ []) es) (last_after (before ++ d ∷ []) es e h.1)

  -- the last entry
  pub each_last : (es : List Entry) (e : Entry) → EachAfter R [] (es ++ e ∷ []) → R es e
  each_last es e h = last_after [] es e h

-- ---- one entry more

-- what is given after one entry more
pub clause_given-push : (es : List Entry) (e : Entry) (id : ℕ)
    → clause_given (es ++ e ∷ []) id ≡ option_or (clause_given es id) (clause_by id e)
clause_given-push [] e id = or_none (clause_by id e)
  where
    or_none : (o : Option Clause) → option_or o None ≡ o
    or_none None = refl
    or_none (Some c) = refl
clause_given-push (d ∷ es) e id =
    ap (option_or (clause_by id d)) (clause_given-push es e id)
    ∙ or_assoc (clause_by id d) (clause_given es id) (clause_by id e)
  where
    or_assoc : (a b c : Option Clause) → option_or a (option_or b c) ≡ option_or (option_or a b) c
    or_assoc None b c = refl
    or_assoc (Some x) b c = refl

-- one entry more in a test of which any entry is true
pub any-push : (p : Entry → Bool) (es : List Entry) (e : Entry) → list_any p (es ++ e ∷ []) ≡ (list_any p es || p e)
any-push p es e = list_any-append p es (e ∷ []) ∙ ap (λ b. list_any p es || b) (or-false (p e))

-- ---- a number that is deleted was given

abbrev Deletes : List Entry → Type 0
Deletes es = (id : ℕ) → is_deleted es id ≡ true → is_given es id ≡ true

pub given-kept : (es : List Entry) (e : Entry) (id : ℕ) → is_given es id ≡ true → is_given (es ++ e ∷ []) id ≡ true
given-kept es e id h = ap is_some (clause_given-push es e id) ∙ some_or (clause_given es id) (clause_by id e) h
  where
    some_or : (a b : Option Clause) → is_some a ≡ true → is_some (option_or a b) ≡ true
    some_or (Some x) b h = refl
    some_or None b h = absurd (false≢true h)

-- a number that is held was given
pub given_from_held : (es : List Entry) (id : ℕ) → IsSome (clause_held es id) → is_given es id ≡ true
given_from_held es id h = from (is_deleted es id) (clause_given es id) h
  where
    from : (b : Bool) (o : Option Clause) → IsSome (cond b None o) → is_some o ≡ true
    from true o h = absurd (false≢true h)
    from false (Some c) h = refl
    from false None h = absurd (false≢true h)

deleted_now : (es : List Entry) (e : Entry) (id : ℕ) → IsSound es e → deletes id e ≡ true → is_given es id ≡ true
deleted_now es (Input own clause) id h d = absurd (false≢true d)
deleted_now es (Add own clause chain) id h d = absurd (false≢true d)
deleted_now es (Delete own) id h d =
    given_from_held es id (subst (λ n. IsSome (clause_held es n)) (eqb-true own id d) h)
deleted_now es End id h d = absurd (false≢true d)

-- a number that is deleted was given
pub given_from_deleted : (es : List Entry) → IsGood es → Deletes es
given_from_deleted = by_steps KeepsGood Deletes (λ id h. h) (λ es e kept earlier id h.
    given-kept es e id (elim (or_cases _ _ (sym (any-push (deletes id) es e) ∙ h)) [
      | inl before ↦ earlier id before
      | inr now ↦ deleted_now es e id kept.1 now
    ]))

-- a clause that is held was given
pub given_of_held : (es : List Entry) (id : ℕ) (c : Clause) → clause_held es id ≡ Some c → clause_given es id ≡ Some c
given_of_held es id c there = by (is_deleted es id) (clause_given es id) there
  where
    by : (b : Bool) (o : Option Clause) → cond b None o ≡ Some c → o ≡ Some c
    by true o h = absurd (cc)
    by false o h = h
