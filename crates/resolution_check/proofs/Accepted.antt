-- A checker that has read a list, and one entry more.
use Rattle.std.proofs.Common.{◌≡◌, ◌⊎◌, inl, inr, refl, sym, ◌∙◌, ap, ap₂, ℕ, ◌+◌, ◌==◌, Bool, true, false, ◌||◌, cond}
use Rattle.std.proofs.Common.{List, [], ◌∷◌, ◌++◌, Option, Some, None, Result, Ok, Err, OnOk, IfErr, is_some, arith}
use Rattle.std.specs.Option.{option_or}
use Rattle.std.proofs.lemmas.Bool.{false_from_ne_true, true≢false, false≢true, eqb-true}
use Rattle.std.proofs.lemmas.Grind.{common_steps}
use Rattle.resolution_check.specs.declared.log.Clause.{Clause}
use Rattle.resolution_check.specs.declared.log.Entry.{Entry}
use Rattle.resolution_check.specs.declared.log.Entry.TheVariants.{Input, Add, Delete, End}
use Rattle.resolution_check.specs.declared.log.Bad.{Bad}
use Rattle.resolution_check.specs.declared.log.Bad.TheVariants.{Memory, AfterEnd}
use Rattle.resolution_check.specs.Entries.{gives, clause_by, deletes, is_end, is_refutation, additions_in}
use Rattle.resolution_check.specs.Entries.{clause_given, is_given, is_deleted, clause_held, addition_count}
use Rattle.resolution_check.specs.Entries.{entry_fault, fault_of, IsSound, KeepsGood, IsGood}
use Rattle.resolution_check.specs.Known.{Known, HasRead, given_on, held_on, fault_in, IsJudged, held_by, Advances}
use Rattle.resolution_check.proofs.Goods.{kept_from_free, free_from_kept, each_push, clause_given-push, any-push}
use Rattle.resolution_check.proofs.Goods.{given_from_deleted}

-- ---- the checker's cause is the list's

-- the checker's cause of refusal is the list's
pub same_fault : (known : Known) (es : List Entry) (e : Entry) → HasRead known es → fault_in known e ≡ fault_of es e
same_fault known es e h =
    let given : given_on known.shelf ≡ is_given es = λ i id. h.given id i in
    let held : held_on known.shelf ≡ clause_held es = λ i id. h.held id i in
    λ i. cond (h.ended i) (Some AfterEnd) (entry_fault (given i) (held i) e)

-- ---- what is given and held after one entry more

given_push : (es : List Entry) (e : Entry) (id : ℕ) → is_given (es ++ e ∷ []) id ≡ (is_given es id || gives id e)
given_push es e id = ap is_some (clause_given-push es e id) ∙ some_or (clause_given es id) (clause_by id e)
  where
    some_or : (a b : Option Clause) → is_some (option_or a b) ≡ (is_some a || is_some b)
    some_or None b = refl
    some_or (Some c) b = refl

-- by whether the number was deleted and what was given
abbrev here : Bool → Option Clause → Option Clause
here deleted given = cond deleted None given

held_more : (es : List Entry) (e : Entry) (id : ℕ)
    → clause_held (es ++ e ∷ []) id
    ≡ here (is_deleted es id || deletes id e) (option_or (clause_given es id) (clause_by id e))
held_more es e id = ap₂ here (any-push (deletes id) es e) (clause_given-push es e id)

or_none : (deleted : Bool) (o : Option Clause) → here deleted o ≡ here (deleted || false) (option_or o None)
or_none true o = refl
or_none false None = refl
or_none false (Some c) = refl

-- a number that is given for the first time
gives_new : (b deleted : Bool) (o : Option Clause) (clause : Clause)
    → (b ≡ true → (is_some o ≡ false) × (deleted ≡ false))
    → cond b (Some clause) (here deleted o) ≡ here (deleted || false) (option_or o (cond b (Some clause) None))
gives_new true true o clause h = absurd (true≢false (h refl).1)
gives_new true false (Some c) clause h = absurd (true≢false (h refl).0)
gives_new true false None clause h = refl
gives_new false deleted o clause h = or_none deleted o

-- a number that is deleted
takes_off : (b deleted : Bool) (o : Option Clause)
    → cond b None (here deleted o) ≡ here (deleted || b) (option_or o None)
takes_off true true o = refl
takes_off true false o = refl
takes_off false deleted o = or_none deleted o

new_number : (es : List Entry) (own id : ℕ) → IsGood es → is_given es own ≡ false → (own == id) ≡ true
    → (is_given es id ≡ false) × (is_deleted es id ≡ false)
new_number es own id g s e =
    let new : is_given es id ≡ false = ap (is_given es) (sym (eqb-true own id e)) ∙ s in
    (new, false_from_ne_true (is_deleted es id) (λ d. false≢true (sym new ∙ given_from_deleted es g id d)))

held_push : (es : List Entry) (e : Entry) (id : ℕ) → IsGood es → IsSound es e
    → held_by e id (clause_held es id) ≡ clause_held (es ++ e ∷ []) id
held_push es (Input own clause) id g s =
    gives_new (own == id) (is_deleted es id) (clause_given es id) clause (new_number es own id g s)
    ∙ sym (held_more es (Input own clause) id)
held_push es (Add own clause chain) id g s =
    gives_new (own == id) (is_deleted es id) (clause_given es id) clause (new_number es own id g s.0)
    ∙ sym (held_more es (Add own clause chain) id)
held_push es (Delete own) id g s =
    takes_off (own == id) (is_deleted es id) (clause_given es id) ∙ sym (held_more es (Delete own) id)
held_push es End id g s = or_none (is_deleted es id) (clause_given es id) ∙ sym (held_more es End id)

-- one entry more counts as many additions as it is
pub count-push : (es : List Entry) (e : Entry) → addition_count (es ++ e ∷ []) ≡ addition_count es + additions_in e
count-push es e = grind (arith, common_steps)

-- the checker that has read es and accepts e has read both
pub reads_more : (old new : Known) (es : List Entry) (e : Entry) → HasRead old es → fault_in old e ≡ None
    → Advances old new e → HasRead new (es ++ e ∷ [])
reads_more old new es e h free a =
    let kept = kept_from_free es e (sym (same_fault old es e h) ∙ free) in
    record {
      good = each_push KeepsGood es e h.good kept;
      given = λ id. a.shelf.given id ∙ ap (λ b. b || gives id e) (h.given id) ∙ sym (given_push es e id);
      held = λ id. a.shelf.held id ∙ ap (held_by e id) (h.held id) ∙ held_push es e id h.good kept.1;
      added = a.added ∙ ap (λ n. n + additions_in e) h.added ∙ sym (count-push es e);
      refuted = a.refuted ∙ ap (λ b. b || is_refutation e) h.refuted ∙ sym (any-push is_refutation es e);
      ended = a.ended ∙ ap (λ b. b || is_end e) h.ended ∙ sym (any-push is_end es e);
    }

-- ---- what step answers

-- an entry that is accepted has been read
pub stepped : {U : Type 0} (old new : Known) (e : Entry) (answer : Result U Bad) → IsJudged answer (fault_in old e)
    → OnOk answer (Advances old new e) → OnOk answer ((es : List Entry) → HasRead old es → HasRead new (es ++ e ∷ []))
stepped old new e (Ok done) free a = λ es h. reads_more old new es e h free a
stepped old new e (Err bad) fault a = a

-- an entry is refused for the cause that the list gives, or for want of memory
pub refused : {U : Type 0} (known : Known) (e : Entry) (answer : Result U Bad) → IsJudged answer (fault_in known e)
    → IfErr answer (λ bad. (bad ≡ Memory) ⊎ ((es : List Entry) → HasRead known es → fault_of es e ≡ Some bad))
refused known e (Ok done) free = tt
refused known e (Err bad) (inl memory) = inl memory
refused known e (Err bad) (inr fault) = inr (λ es h. sym (same_fault known es e h) ∙ fault)

-- an entry that keeps the list good is refused for want of memory alone
pub only_memory : {U : Type 0} (known : Known) (es : List Entry) (e : Entry) (answer : Result U Bad)
    → HasRead known es → KeepsGood es e → IsJudged answer (fault_in known e) → IfErr answer (λ bad. bad ≡ Memory)
only_memory known es e (Ok done) h kept free = tt
only_memory known es e (Err bad) h kept (inl memory) = memory
only_memory known es e (Err bad) h kept (inr fault) =
    let none : None ≡ Some bad = sym (same_fault known es e h ∙ free_from_kept es e kept) ∙ fault in absurd (cc)
