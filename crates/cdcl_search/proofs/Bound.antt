-- How many additions a log has.
use Rattle.std.proofs.Common.{◌≡◌, ◌⊎◌, ℕ, suc, ◌+◌, ◌*◌, ◌^◌, ◌<◌, ◌≤◌, ◌||◌, ◌&&◌, ◌==◌, Bool, true, false, not}
use Rattle.std.proofs.Common.{cond, List, [], ◌∷◌, ◌++◌, length, Option, Some, None, is_some, Result, Ok, Err, IfOk}
use Rattle.std.proofs.Common.{inl, inr, refl, sym, ap, ap₂, subst, ◌∙◌, add-zero, zero-mul, arith, nat_lt}
use Rattle.std.specs.Option.{option_or}
use Rattle.std.specs.List.{list_any, list_all, IsDistinct}
use Rattle.std.proofs.Math.Dec.{eqb}
use Rattle.std.proofs.Math.Nat.{le_of_mul-le-mul_left, mul-le-mul_right}
use Rattle.std.proofs.lemmas.Bool.{and_parts, cases_Bool, false_from_ne_true, false≢true, or_cases, eqb-true, eq-eqb}
use Rattle.std.proofs.lemmas.List.Elements.{filter_map-append}
use Rattle.std.proofs.lemmas.List.Folds.{list_all-append}
use Rattle.std.proofs.lemmas.Map.Keys.{IsDistinct-cons}
use Rattle.std.proofs.lemmas.Map.Steps.{length-le_from_distinct_below}
use Rattle.mw_text.proofs.Lists.{none_equal}
use Rattle.resolution_check.specs.declared.log.Lit.{Lit}
use Rattle.resolution_check.specs.declared.log.Clause.{Clause}
use Rattle.resolution_check.specs.declared.log.Entry.{Entry}
use Rattle.resolution_check.specs.declared.log.Entry.TheVariants.{Input, Add, Delete, End}
use Rattle.resolution_check.specs.Clauses.{has, is_same, opposite, resolvent, is_below}
use Rattle.resolution_check.specs.Entries.{clause_by, deletes, clause_given, is_given, is_deleted, clause_held}
use Rattle.resolution_check.specs.Entries.{addition_count, additions_in, inputs, input_of, resolved, KeepsGood}
use Rattle.resolution_check.specs.Entries.{EachAfter, IsGood}
use Rattle.resolution_check.specs.Earned.{vars_differ, is_deletion, ends_deleting, run_count, IsEarned}
use Rattle.resolution_check.specs.Earned.{IsEarnedAddition, MayDelete, MayFollow}
use Rattle.resolution_check.proofs.Accepted.{count-push}
use Rattle.resolution_check.proofs.Chains.{resolved_has}
use Rattle.resolution_check.proofs.Goods.{by_steps, each_push, clause_given-push, any-push, given_from_deleted}
use Rattle.resolution_check.proofs.Literals.{all_at, all_from}
use Rattle.resolution_check.proofs.Resolvents.{has-resolvent}
use Rattle.resolution_check.proofs.Goods.{given_of_held}
use Rattle.cdcl_search.specs.declared.outcome.Outcome.{Outcome}
use Rattle.cdcl_search.specs.declared.outcome.Outcome.TheVariants.{Unsat, Sat, Unknown}
use Rattle.cdcl_search.specs.Outcomes.{IsSearchLog, IsLogged, OnUnknown}
use Rattle.cdcl_search.proofs.Codes.{code, code_below, inside_from_code}
use Rattle.cdcl_search.proofs.Logs.{inputs_of}
use Rattle.cdcl_search.proofs.Runs.{ends-push, runs-push}

abbrev are_below : ℕ → List Clause → Bool
are_below limit cs = list_all (λ c. is_below limit c.lits) cs

own_below : (limit own : ℕ) (clause : Clause) → is_below limit clause.lits ≡ true → (id : ℕ) (c : Clause)
    → cond (own == id) (Some clause) None ≡ Some c → is_below limit c.lits ≡ true
own_below limit own clause small id c there = by (own == id) there
  where
    by : (b : Bool) → cond b (Some clause) None ≡ Some c → is_below limit c.lits ≡ true
    by true h = let same : clause ≡ c = cc in ap (λ (d : Clause). is_below limit d.lits) (sym same) ∙ small
    by false h = absurd (cc)

-- ---- a chain names no new variable

both_below : (limit : ℕ) (c d s : List Lit) → resolvent c d ≡ Some s → is_below limit c ≡ true
    → is_below limit d ≡ true → is_below limit s ≡ true
both_below limit c d s e first second =
    let found = has-resolvent c d s e in
    all_from (λ k. nat_lt k.var limit) s
    (λ l h. elim (either (not (is_same found.0 l)) (has c l) (not (is_same (opposite found.0) l)) (has d l)
    (sym (found.2 l) ∙ h)) [
      | inl one ↦ all_at (λ k. nat_lt k.var limit) c first l one
      | inr other ↦ all_at (λ k. nat_lt k.var limit) d second l other
    ])
  where
    either : (a b x y : Bool) → ((a && b) || (x && y)) ≡ true → (b ≡ true) ⊎ (y ≡ true)
    either a b x y h =
        elim (or_cases (a && b) (x && y) h) [
          | inl one ↦ inl (and_parts a b one).1
          | inr other ↦ inr (and_parts x y other).1
        ]

-- the last resolvent has variables below the limit only
resolved_below : (limit : ℕ) (held : ℕ → Option Clause)
    → ((id : ℕ) (c : Clause) → held id ≡ Some c → is_below limit c.lits ≡ true)
    → (chain : List ℕ) (s : List Lit) → resolved held chain ≡ Ok s → is_below limit s ≡ true
resolved_below limit held below =
    resolved_has (λ c. is_below limit c ≡ true)
    (λ c d s first second e. both_below limit c d s e first second) held below

-- ---- one entry more: runs of deletions

-- where nothing is deleted there is no run
no_runs : (deleting : Bool) (es : List Entry) → list_any is_deletion es ≡ false → run_count deleting es ≡ 0
no_runs deleting [] h = refl
no_runs deleting (Input id c ∷ es) h = let rest = no_runs false es h in omega arith
no_runs deleting (Add id c chain ∷ es) h = let rest = no_runs false es h in omega arith
no_runs deleting (Delete id ∷ es) h = absurd (false≢true (sym h))
no_runs deleting (End ∷ es) h = let rest = no_runs false es h in omega arith

-- ---- one entry more: clauses that are held

pub held_both : (es : List Entry) (e : Entry) (id : ℕ)
    → clause_held (es ++ e ∷ []) id
    ≡ cond (is_deleted es id || deletes id e) None (option_or (clause_given es id) (clause_by id e))
held_both es e id = ap₂ (λ b o. cond b None o) (any-push (deletes id) es e) (clause_given-push es e id)

deletes_none : (e : Entry) (id : ℕ) → is_deletion e ≡ false → deletes id e ≡ false
deletes_none (Input own c) id h = refl
deletes_none (Add own c chain) id h = refl
deletes_none (Delete own) id h = absurd (false≢true (sym h))
deletes_none End id h = refl

held_still : (es : List Entry) (e : Entry) (id : ℕ) (c : Clause) → is_deletion e ≡ false → clause_held es id ≡ Some c
    → clause_held (es ++ e ∷ []) id ≡ Some c
held_still es e id c keeps there =
    held_both es e id
    ∙ by (is_deleted es id) (deletes id e) (clause_given es id) (clause_by id e) (deletes_none e id keeps) there
  where
    by : (b d : Bool) (o n : Option Clause) → d ≡ false → cond b None o ≡ Some c
        → cond (b || d) None (option_or o n) ≡ Some c
    by true d o n none h = absurd (cc)
    by false d None n none h = absurd (cc)
    by false d (Some k) n none h = ap (λ b. cond b None (Some k)) none ∙ h

held_now : (es : List Entry) (id : ℕ) (clause : Clause) (chain : List ℕ) → IsGood es → is_given es id ≡ false
    → clause_held (es ++ Add id clause chain ∷ []) id ≡ Some clause
held_now es id clause chain good new =
    held_both es (Add id clause chain) id
    ∙ by (is_deleted es id) (clause_given es id)
    (false_from_ne_true (is_deleted es id) (λ d. false≢true (sym new ∙ given_from_deleted es good id d))) new
  where
    by : (b : Bool) (o : Option Clause) → b ≡ false → is_some o ≡ false
        → cond (b || false) None (option_or o (cond (id == id) (Some clause) None)) ≡ Some clause
    by true o kept h = absurd (false≢true (sym kept))
    by false None kept h = ap (λ b. cond b (Some clause) None) (eq-eqb id id refl)
    by false (Some c) kept h = absurd (false≢true (sym h))

-- ---- powers

-- a new run after as many additions as a run owes
spread : (runs power count added : ℕ) → added ≤ runs * power + count → count ≤ power
    → 1000 * (runs + 1) * (runs + 2) ≤ added → runs + 2 ≤ power
spread runs power count added few small owed =
    let product : (runs + 1) * (1000 * (runs + 2)) ≤ (runs + 1) * power = omega arith in
    let far = le_of_mul-le-mul_left {m = 1000 * (runs + 2)} {n = power} {k = runs + 1} product (omega arith) in
    omega arith

most : (runs power count added : ℕ) → added ≤ runs * power + count → count ≤ power → (runs ≡ 0) ⊎ (runs + 1 ≤ power)
    → added ≤ power * (power + 1)
most runs power count added few small (inl none) =
    let nothing : runs * power ≡ 0 = ap (λ n. n * power) none ∙ zero-mul power in omega arith
most runs power count added few small (inr apart) =
    let product = mul-le-mul_right {m = runs + 1} {n = power} power apart in omega arith

-- ---- the codes of the additions

-- a clause that is held, with no variable twice, has this code
record IsCodeOf (limit : ℕ) (es : List Entry) (q : ℕ) : Type 0 where
  id : ℕ
  clause : Clause
  held : clause_held es id ≡ Some clause
  once : vars_differ clause.lits ≡ true
  same : code clause.lits limit ≡ q

-- the clauses given have variables below the limit only, and the additions since the last deletion have codes, no two
-- of them the same; before each run of deletions there are few additions, and so there are few runs
record IsCoded (limit : ℕ) (es : List Entry) : Type 0 where
  good : IsGood es
  below : (id : ℕ) (c : Clause) → clause_given es id ≡ Some c → is_below limit c.lits ≡ true
  codes : List ℕ
  distinct : IsDistinct eqb codes
  coded : (q : ℕ) → list_any (eqb q) codes ≡ true → IsCodeOf limit es q
  few : addition_count es ≤ run_count false es * 3 ^ limit + length codes
  fresh : ends_deleting false es ≡ true → length codes ≡ 0
  apart : (run_count false es ≡ 0) ⊎ (run_count false es + 1 ≤ 3 ^ limit)

-- what an entry owes in such a log
abbrev Owes : List Entry → Entry → Type 0
Owes es e = KeepsGood es e × IsEarned es e × MayFollow es e

owes_each : (before es : List Entry) → EachAfter KeepsGood before es → EachAfter IsEarned before es
    → EachAfter MayFollow before es → EachAfter Owes before es
owes_each before [] good earned spaced = tt
owes_each before (e ∷ es) good earned spaced =
    ((good.0, earned.0, spaced.0), owes_each (before ++ e ∷ []) es good.1 earned.1 spaced.1)

module _ (limit : ℕ) (es : List Entry) (h : IsCoded limit es) where
  few_codes : length h.codes ≤ 3 ^ limit
  few_codes =
      length-le_from_distinct_below h.codes (3 ^ limit) h.distinct
      (λ q there. let k = h.coded q there in subst (λ n. n < 3 ^ limit) k.same (code_below k.clause.lits limit))

  below_held : (id : ℕ) (c : Clause) → clause_held es id ≡ Some c → is_below limit c.lits ≡ true
  below_held id c there = h.below id c (given_of_held es id c there)

  below_more : (e : Entry) → ((id : ℕ) (c : Clause) → clause_by id e ≡ Some c → is_below limit c.lits ≡ true)
      → (id : ℕ) (c : Clause) → clause_given (es ++ e ∷ []) id ≡ Some c → is_below limit c.lits ≡ true
  below_more e small id c there = by (clause_given es id) refl (sym (clause_given-push es e id) ∙ there)
    where
      by : (o : Option Clause) → clause_given es id ≡ o → option_or o (clause_by id e) ≡ Some c
          → is_below limit c.lits ≡ true
      by None before now = small id c now
      by (Some d) before now = h.below id c (before ∙ now)

  code_more : (e : Entry) (q : ℕ) → is_deletion e ≡ false → IsCodeOf limit es q → IsCodeOf limit (es ++ e ∷ []) q
  code_more e q keeps k =
      record {
        id = k.id;
        clause = k.clause;
        held = held_still es e k.id k.clause keeps k.held;
        once = k.once;
        same =
            k.same;
      }

  same_runs : (e : Entry) → is_deletion e ≡ false → run_count false (es ++ e ∷ []) ≡ run_count false es
  same_runs e keeps = runs-push false es e ∙ by (is_deletion e) keeps
    where
      by : (b : Bool) → b ≡ false
          → run_count false es + cond (b && not (ends_deleting false es)) 1 0 ≡ run_count false es
      by true h = absurd (false≢true (sym h))
      by false h = omega arith

  same_apart : (e : Entry) → is_deletion e ≡ false
      → (run_count false (es ++ e ∷ []) ≡ 0) ⊎ (run_count false (es ++ e ∷ []) + 1 ≤ 3 ^ limit)
  same_apart e keeps = subst (λ n. (n ≡ 0) ⊎ (n + 1 ≤ 3 ^ limit)) (sym (same_runs e keeps)) h.apart

  not_ending : (e : Entry) (n : ℕ) → is_deletion e ≡ false → ends_deleting false (es ++ e ∷ []) ≡ true → n ≡ 0
  not_ending e n keeps ends = absurd (false≢true (sym keeps ∙ sym (ends-push false es e) ∙ ends))

  -- an entry that is no addition and no deletion
  plain_more : (e : Entry) → KeepsGood es e → is_deletion e ≡ false → additions_in e ≡ 0
      → ((id : ℕ) (c : Clause) → clause_by id e ≡ Some c → is_below limit c.lits ≡ true)
      → IsCoded limit (es ++ e ∷ [])
  plain_more e keeps_good keeps none small =
      let count : addition_count (es ++ e ∷ []) ≡ addition_count es =
      count-push es e ∙ ap (λ n. addition_count es + n) none ∙ add-zero (addition_count es) in
      record {
        good = each_push KeepsGood es e h.good keeps_good;
        below = below_more e small;
        codes = h.codes;
        distinct = h.distinct;
        coded = λ q there. code_more e q keeps (h.coded q there);
        few = rw (count, same_runs e keeps) h.few;
        fresh = not_ending e (length h.codes) keeps;
        apart = same_apart e keeps;
      }

  module _ (id : ℕ) (clause : Clause) (chain : List ℕ) (earned : IsEarnedAddition es id clause chain) where
    abbrev own : ℕ
    own = code clause.lits limit

    abbrev addition : Entry
    addition = Add id clause chain

    new_code : list_any (eqb own) h.codes ≡ false
    new_code = elim (cases_Bool (list_any (eqb own) h.codes)) [
      | inr none ↦ none
      | inl there ↦
          let k = h.coded own there in
          let outside = earned.smallest k.id k.clause k.held in
          absurd (false≢true (sym outside
          ∙ inside_from_code k.clause.lits clause.lits limit k.once (below_held k.id k.clause k.held) k.same))
    ]

    is_below_too : is_below limit clause.lits ≡ true
    is_below_too =
        let r = earned.exact.0 in
        let small = resolved_below limit (clause_held es) below_held chain r earned.exact.1 in
        all_from (λ k. nat_lt k.var limit) clause.lits
        (λ l there. all_at (λ k. nat_lt k.var limit) r small l (all_at (has r) clause.lits earned.exact.3 l there))

    code_now : (q : ℕ) → list_any (eqb q) (own ∷ h.codes) ≡ true → IsCodeOf limit (es ++ addition ∷ []) q
    code_now q there = elim (or_cases (eqb q own) (list_any (eqb q) h.codes) there) [
      | inl here ↦ record {
        id = id;
        clause = clause;
        held = held_now es id clause chain h.good earned.good.1.0;
        once = earned.once;
        same = sym (eqb-true q own here);
      }
      | inr before ↦ code_more addition q refl (h.coded q before)
    ]

    one_more : (added runs power count : ℕ) → added ≤ runs * power + count → added + 1 ≤ runs * power + suc count
    one_more added runs power count few = omega arith

    addition_more : IsCoded limit (es ++ addition ∷ [])
    addition_more = record {
      good = each_push KeepsGood es addition h.good earned.good;
      below = below_more addition (own_below limit id clause is_below_too);
      codes = own ∷ h.codes;
      distinct = IsDistinct-cons eqb own h.codes (none_equal own h.codes new_code) h.distinct;
      coded = code_now;
      few = rw (count-push es addition, same_runs addition refl)
          (one_more (addition_count es) (run_count false es) (3 ^ limit) (length h.codes) h.few);
      fresh = not_ending addition (length (own ∷ h.codes)) refl;
      apart = same_apart addition refl;
    }

  module _ (id : ℕ) (keeps_good : KeepsGood es (Delete id)) (may : MayDelete es id) where
    abbrev deletion : Entry
    deletion = Delete id

    same_count : addition_count (es ++ deletion ∷ []) ≡ addition_count es
    same_count = count-push es deletion ∙ add-zero (addition_count es)

    -- no code is left, whatever the new count of runs is
    none_left : (runs : ℕ) → run_count false (es ++ deletion ∷ []) ≡ runs → addition_count es ≤ runs * 3 ^ limit + 0
        → (runs ≡ 0) ⊎ (runs + 1 ≤ 3 ^ limit) → IsCoded limit (es ++ deletion ∷ [])
    unfolding IsDistinct
    none_left runs is few apart = record {
      good = each_push KeepsGood es deletion h.good keeps_good;
      below = below_more deletion (λ own c there. absurd (cc));
      codes = [];
      distinct = tt;
      coded = λ q there. absurd (false≢true there);
      few = rw (same_count, is) few;
      fresh = λ ends. refl;
      apart = subst (λ n. (n ≡ 0) ⊎ (n + 1 ≤ 3 ^ limit)) (sym is) apart;
    }

    runs_by : (ends : Bool) → ends_deleting false es ≡ ends
        → run_count false (es ++ deletion ∷ []) ≡ run_count false es + cond (not ends) 1 0
    runs_by ends is = runs-push false es deletion ∙ ap (λ b. run_count false es + cond (not b) 1 0) is

    run_goes_on : ends_deleting false es ≡ true → IsCoded limit (es ++ deletion ∷ [])
    run_goes_on ends =
        none_left (run_count false es) (runs_by true ends ∙ add-zero (run_count false es))
        (subst (λ n. addition_count es ≤ run_count false es * 3 ^ limit + n) (h.fresh ends) h.few) h.apart

    run_begins : ends_deleting false es ≡ false → IsCoded limit (es ++ deletion ∷ [])
    run_begins none =
        let owed : 1000 * (run_count false es + 1) * (run_count false es + 2) ≤ addition_count es =
        elim may.apart [ inl ends ↦ absurd (false≢true (sym none ∙ ends)) | inr owed ↦ owed ] in
        none_left (run_count false es + 1) (runs_by false none)
        (next_few (run_count false es) (3 ^ limit) (length h.codes) (addition_count es) h.few few_codes)
        (inr (next_apart (run_count false es) (3 ^ limit)
        (spread (run_count false es) (3 ^ limit) (length h.codes) (addition_count es) h.few few_codes owed)))
      where
        next_few : (runs power count added : ℕ) → added ≤ runs * power + count → count ≤ power
            → added ≤ (runs + 1) * power + 0
        next_few runs power count added few small = grind arith

        next_apart : (runs power : ℕ) → runs + 2 ≤ power → (runs + 1) + 1 ≤ power
        next_apart runs power within = omega arith

    deletion_more : IsCoded limit (es ++ deletion ∷ [])
    deletion_more =
        elim (cases_Bool (ends_deleting false es)) [ inl ends ↦ run_goes_on ends | inr none ↦ run_begins none ]

  coded_more : (e : Entry) → Owes es e → are_below limit (inputs (e ∷ [])) ≡ true → IsCoded limit (es ++ e ∷ [])
  coded_more (Input id clause) owes small =
      plain_more (Input id clause) owes.0 refl refl (own_below limit id clause (and_parts _ _ small).0)
  coded_more (Add id clause chain) owes small = addition_more id clause chain owes.1
  coded_more (Delete id) owes small = deletion_more id owes.0 owes.2
  coded_more End owes small = plain_more End owes.0 refl refl (λ id c there. absurd (cc))

-- where the inputs have variables below the limit only
coded_all : (limit : ℕ) (es : List Entry) → EachAfter Owes [] es → are_below limit (inputs es) ≡ true → IsCoded limit es
unfolding IsDistinct
coded_all limit = by_steps Owes (λ es. are_below limit (inputs es) ≡ true → IsCoded limit es) start step
  where
    start : are_below limit (inputs []) ≡ true → IsCoded limit []
    start small =
        record {
          good = tt;
          below = λ id c there. absurd (cc);
          codes = [];
          distinct = tt;
          coded = λ q there. absurd
              (false≢true there);
          few = omega arith;
          fresh = λ ends. refl;
          apart = inl refl;
        }

    step : (es : List Entry) (e : Entry) → Owes es e → (are_below limit (inputs es) ≡ true → IsCoded limit es)
        → are_below limit (inputs (es ++ e ∷ [])) ≡ true → IsCoded limit (es ++ e ∷ [])
    step es e owes before small =
        let split : are_below limit (inputs (es ++ e ∷ []))
        ≡ (are_below limit (inputs es) && are_below limit (inputs (e ∷ []))) =
        ap (are_below limit) (filter_map-append input_of es (e ∷ []))
        ∙ list_all-append (λ c. is_below limit c.lits) (inputs es) (inputs (e ∷ [])) in
        let both = and_parts (are_below limit (inputs es)) (are_below limit (inputs (e ∷ []))) (sym split ∙ small) in
        coded_more limit es (before both.0) e owes both.1

-- ---- the bounds

coded_log : (vars : ℕ) (clauses : List Clause) (es : List Entry) → are_below vars clauses ≡ true
    → IsSearchLog clauses es → IsCoded vars es
coded_log vars clauses es small log =
    coded_all vars es (owes_each [] es log.good log.earned log.spaced)
    (ap (are_below vars) (inputs_of clauses es log) ∙ small)

pub undeleted_bound : (vars : ℕ) (clauses : List Clause) (es : List Entry)
    → list_all (λ c. is_below vars c.lits) clauses ≡ true → IsSearchLog clauses es → list_any is_deletion es ≡ false
    → addition_count es ≤ 3 ^ vars
undeleted_bound vars clauses es small log kept =
    let h = coded_log vars clauses es small log in
    none (run_count false es) (3 ^ vars) (length h.codes) (addition_count es) h.few (few_codes vars es h)
    (no_runs false es kept)
  where
    none : (runs power count added : ℕ) → added ≤ runs * power + count → count ≤ power → runs ≡ 0 → added ≤ power
    none runs power count added few fits is = grind arith

pub spaced_bound : (vars : ℕ) (clauses : List Clause) (es : List Entry)
    → list_all (λ c. is_below vars c.lits) clauses ≡ true → IsSearchLog clauses es
    → addition_count es ≤ 3 ^ vars * (3 ^ vars + 1)
spaced_bound vars clauses es small log =
    let h = coded_log vars clauses es small log in
    most (run_count false es) (3 ^ vars) (length h.codes) (addition_count es) h.few (few_codes vars es h) h.apart

-- an outcome that comes with the budget as its count comes with no more than a log can have
pub unknown_within : {E : Type 0} (before now : Option (List ℕ)) (vars : ℕ) (cs : List Clause) (budget : ℕ)
    (tolds : List (Option (List ℕ))) (r : Result Outcome E)
    → list_all (λ c. is_below vars c.lits) cs ≡ true → IfOk r (λ o. IsLogged before now cs budget tolds o)
    → IfOk r (λ o. OnUnknown o (λ added. added ≡ budget))
    → IfOk r (λ o. OnUnknown o (λ added. added ≤ 3 ^ vars * (3 ^ vars + 1)))
unknown_within before now vars cs budget tolds (Ok Unsat) small l same = tt
unknown_within before now vars cs budget tolds (Ok (Sat values)) small l same = tt
unknown_within before now vars cs budget tolds (Ok (Unknown added)) small l same =
    subst (λ n. n ≤ 3 ^ vars * (3 ^ vars + 1)) (l.shows.1 ∙ sym same) (spaced_bound vars cs l.entries small l.log)
unknown_within before now vars cs budget tolds (Err e) small l same = tt
