-- The log of a search: its entries and their lines.
use Rattle.resolution_check.proofs.Values.{below_larger}
use Rattle.std.proofs.Common.{◌*◌, ◌/◌, ◌-◌, min, ◌≡◌, ℕ, ◌+◌, ◌<◌, ◌≤◌, ◌^◌, ◌==◌, Bool, true, false, cond, ◌||◌, List, []}
use Rattle.std.proofs.Common.{◌∷◌, ◌++◌, length, take, drop, slice_get, Option, Some, None, is_some, Result, Ok, Err}
use Rattle.std.proofs.Common.{IfOk, refl, sym, ap, ap₂, subst, ◌∙◌, arith, inl, inr, add-zero, append_assoc}
use Rattle.std.proofs.Common.{take-append-drop}
use Rattle.cnf_blaster.proofs.Properness.{weaker}
use Rattle.std.specs.Option.{option_or, option_map_or, ok_or}
use Rattle.std.specs.List.{list_all, list_any, AllByRecursion}
use Rattle.std.proofs.lemmas.Bool.{and_parts, ltb-true, cases_Bool, eqb-true, false≢true}
use Rattle.std.proofs.lemmas.Bool.{false_from_ne_true}
use Rattle.std.proofs.lemmas.List.{append-nil, length-take, take_min}
use Rattle.std.proofs.lemmas.List.Folds.{list_all-append}
use Rattle.std.proofs.Math.Seq.{take-add}
use Rattle.std.proofs.lemmas.Option.{slice_get_within}
use Rattle.mw_outside.specs.Taken.{Takes, TakesPart, takes_more, part_of_all, part_of_none, part_stops, part_more}
use Rattle.resolution_check.specs.declared.log.Lit.{Lit}
use Rattle.resolution_check.specs.declared.log.Clause.{Clause}
use Rattle.resolution_check.specs.declared.log.Entry.{Entry}
use Rattle.resolution_check.specs.declared.log.Entry.TheVariants.{Input, Add, Delete, End}
use Rattle.resolution_check.specs.declared.log.Bad.{Bad}
use Rattle.resolution_check.specs.declared.log.Bad.TheVariants.{NoPivot, UnknownId}
use Rattle.resolution_check.specs.Entries.{and_then, clause_by, deletes, is_end, is_empty, is_refutation, clause_given}
use Rattle.resolution_check.specs.Entries.{is_given, is_deleted, clause_held, has_ended, adds_empty, addition_count}
use Rattle.resolution_check.specs.Entries.{inputs, resolved, resolved_next, resolved_from, KeepsGood, IsGood}
use Rattle.resolution_check.specs.Entries.{IsUnsatisfiable}
use Rattle.resolution_check.proofs.Truth.{unsatisfiable}
use Rattle.resolution_check.specs.Earned.{AllEarned, IsEarned, IsEarnedAddition, IsSpaced, MayFollow, IsAscending}
use Rattle.resolution_check.specs.Earned.{GoesUp, IsAbove, gives_input, run_count}
use Rattle.std.proofs.Math.Bool.{or-false}
use Rattle.mw_text.proofs.Found.{take_at}
use Rattle.resolution_check.specs.Clauses.{is_below, resolvent}
use Rattle.resolution_check.specs.Text.{line_of, log_text, HasText}
use Rattle.resolution_check.proofs.Goods.{each_push, clause_given-push, any-push, given_from_deleted}
use Rattle.resolution_check.proofs.Accepted.{count-push}
use Rattle.resolution_check.proofs.LogLines.{text-append, text-push}
use Rattle.clause_arena.specs.Held.{clause_numbered}
use Rattle.watched_search.specs.Sets.{AreSameSets, IsAddition}
use Rattle.watched_search.specs.Starts.{numbered_from}
use Rattle.watched_search.proofs.Places.{all_push}
use Rattle.watched_search.proofs.Sets.{earned_addition, sets_more}
use Rattle.cdcl_search.specs.declared.outcome.Outcome.{Outcome}
use Rattle.cdcl_search.specs.declared.outcome.Outcome.TheVariants.{Unsat, Sat, Unknown}
use Rattle.cdcl_search.specs.Outcomes.{input_entries, adds_or_deletes, IsSearchLog, IsCut, IsLogged, OnUnsat}
use Rattle.cdcl_search.specs.Going.{IsGoing, IsRefuted}
use Rattle.cdcl_search.specs.Turns.{AreUntold, IsTurn, TellBumps, TellsAt, vars_of}
use Rattle.cdcl_search.proofs.Bumps.{bumps_more, untold_inputs}
use Rattle.cdcl_search.proofs.Runs.{runs-push}

-- ---- what has a text

pub below_each : (limit : ℕ) (c : List Lit) → is_below limit c ≡ true → AllByRecursion (λ l. l.var < limit) c
below_each limit [] h = tt
below_each limit (l ∷ c) h = (ltb-true l.var limit (and_parts _ _ h).0, below_each limit c (and_parts _ _ h).1)

-- numbers that a log may name
abbrev MayBeNamed : ℕ → Type 0
MayBeNamed n = (0 < n) × (n ≤ 2 ^ 63)

-- a chain that resolves names clauses that are held
module _ (held : ℕ → Option Clause) (each : (n : ℕ) (c : Clause) → held n ≡ Some c → MayBeNamed n) where
  chain_next : (r : List Lit) (at id : ℕ) (t : List Lit) → resolved_next held r at id ≡ Ok t → MayBeNamed id
  chain_next r at id t e = by (held id) refl e
    where
      by : (o : Option Clause) → held id ≡ o
          → option_map_or (λ c. ok_or (resolvent r c.lits) (NoPivot at)) o (Err (UnknownId id)) ≡ Ok t
          → MayBeNamed id
      by None there f = absurd (cc)
      by (Some c) there f = each id c there

  chain_rest : (ids : List ℕ) (at : ℕ) (t : List Lit) (id : ℕ) (answer : Result (List Lit) Bad)
      → ((v : List Lit) → answer ≡ Ok v → MayBeNamed id)
      → ((v : List Lit) → resolved_from held v (at + 1) ids ≡ Ok t → AllByRecursion MayBeNamed ids)
      → and_then answer (λ v. resolved_from held v (at + 1) ids) ≡ Ok t → AllByRecursion MayBeNamed (id ∷ ids)
  chain_rest ids at t id (Ok v) here later e = (here v refl, later v e)
  chain_rest ids at t id (Err bad) here later e = absurd (cc)

  chain_from : (ids : List ℕ) (r : List Lit) (at : ℕ) (t : List Lit) → resolved_from held r at ids ≡ Ok t
      → AllByRecursion MayBeNamed ids
  chain_from [] r at t e = tt
  chain_from (id ∷ ids) r at t e =
      chain_rest ids at t id (resolved_next held r at id) (λ v f. chain_next r at id v f)
      (λ v f. chain_from ids v (at + 1) t f) e

  chain_named : (chain : List ℕ) (t : List Lit) → resolved held chain ≡ Ok t → AllByRecursion MayBeNamed chain
  chain_named [] t e = absurd (cc)
  chain_named (id ∷ ids) t e = by (held id) refl e
    where
      by : (o : Option Clause) → held id ≡ o
          → option_map_or (λ c. resolved_from held c.lits 1 ids) o (Err (UnknownId id)) ≡ Ok t
          → AllByRecursion MayBeNamed (id ∷ ids)
      by None there f = absurd (cc)
      by (Some c) there f = (each id c there, chain_from ids c.lits 1 t f)

-- an addition to clauses of numbers below its own has a text
pub addition_text : (held : ℕ → Option Clause) (vars id : ℕ) (lits : List Lit) (chain : List ℕ) → 0 < id → id ≤ 2 ^ 63
    → vars ≤ 2 ^ 63 → is_below vars lits ≡ true
    → ((n : ℕ) (c : Clause) → held n ≡ Some c → (0 < n) × (n < id)) → IsAddition held lits chain
    → HasText (Add id (record { lits = lits }) chain)
addition_text held vars id lits chain some few small below each one = (
  (some, few),
  below_each _ lits (below_larger vars _ lits small below),
  chain_named held (λ n c h. (let e = each n c h in (e.0, let low : n < id = e.1 in omega arith))) chain one.clause
      one.resolves,
)

-- ---- inputs and their lines

pub inputs-append : (id : ℕ) (cs ds : List Clause)
    → input_entries id (cs ++ ds) ≡ input_entries id cs ++ input_entries (id + length cs) ds
inputs-append id [] ds = ap (λ k. input_entries k ds) (sym (add-zero id))
inputs-append id (c ∷ cs) ds =
    let moved : (id + 1) + length cs ≡ id + length (c ∷ cs) = omega arith in
    ap (λ es. Input id c ∷ es)
    (inputs-append (id + 1) cs ds ∙ ap (λ k. input_entries (id + 1) cs ++ input_entries k ds) moved)

-- the inputs so far and one more
input_next : (first : ℕ) (cs : List Clause) (at : ℕ) (c : Clause) → slice_get cs at ≡ Some c
    → input_entries first (take (at + 1) cs) ≡ input_entries first (take at cs) ++ Input (first + at) c ∷ []
input_next first cs at c there =
    let within : at < length cs = slice_get_within cs at c there in
    let front = length-take at cs in
    let number : first + length (take at cs) ≡ first + at = omega arith in
    ap (input_entries first) (take_at cs at c there) ∙ inputs-append first (take at cs) (c ∷ [])
    ∙ ap (λ k. input_entries first (take at cs) ++ Input k c ∷ []) number

pub text_next : (first : ℕ) (cs : List Clause) (at : ℕ) (c : Clause) → slice_get cs at ≡ Some c
    → log_text (input_entries first (take (at + 1) cs))
    ≡ log_text (input_entries first (take at cs)) ++ line_of (Input (first + at) c)
text_next first cs at c there =
    ap log_text (input_next first cs at c there) ∙ text-push (input_entries first (take at cs)) (Input (first + at) c)

-- and some more
text_pieces : (cs : List Clause) (from count : ℕ) → from ≤ length cs
    → log_text (input_entries 1 (take (from + count) cs))
    ≡ log_text (input_entries 1 (take from cs)) ++ log_text (input_entries (from + 1) (take count (drop from cs)))
text_pieces cs from count within =
    let front = length-take from cs in
    let number : 1 + length (take from cs) ≡ from + 1 = omega arith in
    ap (λ ds. log_text (input_entries 1 ds)) (take-add from count cs)
    ∙ ap log_text (inputs-append 1 (take from cs) (take count (drop from cs)))
    ∙ text-append (input_entries 1 (take from cs)) _
    ∙ ap (λ k. log_text (input_entries 1 (take from cs)) ++ log_text (input_entries k (take count (drop from cs)))) number

pub pieces_more : (before middle now : Option (List ℕ)) (cs : List Clause) (from count : ℕ) → from ≤ length cs
    → Takes before middle (log_text (input_entries 1 (take from cs)))
    → Takes middle now (log_text (input_entries (from + 1) (take count (drop from cs))))
    → Takes before now (log_text (input_entries 1 (take (from + count) cs)))
pieces_more before middle now cs from count within first second =
    let P : List ℕ → Type 0 = λ t. Takes before now t in
    subst P (sym (text_pieces cs from count within)) (takes_more before middle now _ _ first second)

pub pieces_part : (before middle now : Option (List ℕ)) (cs : List Clause) (from count : ℕ) → from ≤ length cs
    → Takes before middle (log_text (input_entries 1 (take from cs)))
    → TakesPart middle now (log_text (input_entries (from + 1) (take count (drop from cs))))
    → TakesPart before now (log_text (input_entries 1 cs))
pieces_part before middle now cs from count within first second =
    let front = take (from + count) cs in
    let rest = drop (from + count) cs in
    let whole : log_text (input_entries 1 front) ++ log_text (input_entries (1 + length front) rest)
    ≡ log_text (input_entries 1 cs) =
    sym (text-append (input_entries 1 front) (input_entries (1 + length front) rest))
    ∙ ap log_text (sym (inputs-append 1 front rest))
    ∙ ap (λ ds. log_text (input_entries 1 ds)) (take-append-drop (from + count) cs) in
    let P : List ℕ → Type 0 = λ t. TakesPart before now t in
    subst P whole
    (part_stops before now (log_text (input_entries 1 front)) (log_text (input_entries (1 + length front) rest))
    (subst P (sym (text_pieces cs from count within)) (part_more before middle now _ _ first second)))

-- the end of a piece, and what holds of all
pub next_piece : (cs : List Clause) (from : ℕ) → from ≤ length cs
    → take (from + (min (from + 512) (length cs) - from)) cs ≡ take (from + 512) cs
next_piece cs from within = ap (λ k. take k cs) (omega (arith, within)) ∙ take_min (from + 512) cs

pub all_part : (p : Clause → Bool) (cs : List Clause) (from count : ℕ) → list_all p cs ≡ true
    → list_all p (take count (drop from cs)) ≡ true
all_part p cs from count all =
    let rest = (and_parts _ _ (sym (list_all-append p (take from cs) (drop from cs))
    ∙ ap (list_all p) (take-append-drop from cs) ∙ all)).1 in
    (and_parts _ _ (sym (list_all-append p (take count (drop from cs)) (drop count (drop from cs)))
    ∙ ap (list_all p) (take-append-drop count (drop from cs)) ∙ rest)).0

pub piece_within : (len piece : ℕ) → piece < len / 512 + 1 → piece * 512 ≤ len
piece_within len piece before = omega (arith, before)

pub pieces_all : (len piece : ℕ) → len / 512 + 1 ≤ piece → len ≤ piece * 512
pieces_all len piece last = omega (arith, last)

-- ---- lists of entries so far, and the next number

pub record IsWritten (es : List Entry) (next : ℕ) : Type 0 where
  pub good : IsGood es
  pub not_ended : has_ended es ≡ false
  pub earned : AllEarned es
  pub spaced : IsSpaced es
  pub ascending : IsAscending es
  pub texts : AllByRecursion HasText es
  pub above : IsAbove es next

-- the next number is not given yet
next_is_new : (es : List Entry) (next : ℕ) → IsAbove es next → is_given es next ≡ false
next_is_new es next above = false_from_ne_true _ (λ given. let h : next < next = above next given in omega arith)

-- one entry more that has a text
pub texts_push : (es : List Entry) (e : Entry) → AllByRecursion HasText es → HasText e
    → AllByRecursion HasText (es ++ e ∷ [])
texts_push [] e h k = (k, tt)
texts_push (d ∷ es) e h k = (h.0, texts_push es e h.1 k)

-- the numbers given are below the one after the next
above_next : (es : List Entry) (e : Entry) (next : ℕ) (c : Clause) → IsAbove es next
    → ((id : ℕ) → clause_by id e ≡ cond (next == id) (Some c) None) → IsAbove (es ++ e ∷ []) (next + 1)
above_next es e next c above gives_it other given =
    by (clause_given es other) refl (next == other) refl
    (sym (ap is_some (clause_given-push es e other ∙ ap (option_or (clause_given es other)) (gives_it other))) ∙ given)
  where
    by : (o : Option Clause) → clause_given es other ≡ o → (b : Bool) → (next == other) ≡ b
        → is_some (option_or o (cond b (Some c) None)) ≡ true → other < next + 1
    by (Some d) e b f h = let low : other < next = above other (ap is_some e) in omega arith
    by None e true f h = let same : next ≡ other = eqb-true next other f in omega arith
    by None e false f h = absurd (false≢true h)

-- one entry more, which gives the next number
written_more : (es : List Entry) (e : Entry) (next : ℕ) (c : Clause) → IsWritten es next
    → KeepsGood es e → IsEarned es e → MayFollow es e → GoesUp es e → HasText e
    → ((id : ℕ) → clause_by id e ≡ cond (next == id) (Some c) None) → is_end e ≡ false
    → IsWritten (es ++ e ∷ []) (next + 1)
written_more es e next c w good earned may up text gives_it goes_on = record {
  good = each_push KeepsGood es e w.good good;
  not_ended = any-push is_end es e ∙ ap₂ (λ a b. a || b) w.not_ended goes_on;
  earned = each_push IsEarned es e w.earned earned;
  spaced = each_push MayFollow es e w.spaced may;
  ascending = each_push GoesUp es e w.ascending up;
  texts = texts_push es e w.texts text;
  above = above_next es e next c w.above gives_it;
}

written_none : IsWritten [] 1
written_none = record {
  good = tt;
  not_ended = refl;
  earned = tt;
  spaced = tt;
  ascending = tt;
  texts = tt;
  above = λ other given. absurd (false≢true given);
}

pub small_inputs : (vars : ℕ) (cs : List Clause) → vars ≤ 2 ^ 63 → list_all (λ c. is_below vars c.lits) cs ≡ true
    → list_all (λ c. is_below (2 ^ 63) c.lits) cs ≡ true
small_inputs vars cs few below =
    weaker (λ (k : Clause). is_below vars k.lits) (λ (k : Clause). is_below _ k.lits) cs
    (λ k. below_larger vars _ k.lits few) below

-- inputs under the next numbers
written_inputs : (next : ℕ) (cs : List Clause) (es : List Entry) → 0 < next → next + length cs ≤ 2 ^ 63 + 1
    → list_all (λ c. is_below (2 ^ 63) c.lits) cs ≡ true → IsWritten es next
    → IsWritten (es ++ input_entries next cs) (next + length cs)
written_inputs next [] es some few small w =
    subst (IsWritten (es ++ [])) (sym (add-zero next)) (subst (λ l. IsWritten l next) (sym (append-nil es)) w)
written_inputs next (c ∷ cs) es some few small w =
    let e = Input next c in
    let both = and_parts (is_below (2 ^ 63) c.lits) (list_all (λ (d : Clause). is_below (2 ^ 63) d.lits) cs) small in
    let long : next + length (c ∷ cs) ≡ (next + 1) + length cs = omega arith in
    let text : HasText e = ((some, omega arith), below_each _ c.lits both.0) in
    let one : IsWritten (es ++ e ∷ []) (next + 1) =
    written_more es e next c w (w.not_ended, next_is_new es next w.above) tt tt w.above text (λ id. refl) refl in
    let rest = written_inputs (next + 1) cs (es ++ e ∷ []) (omega arith) (omega arith) both.1 one in
    subst (λ l. IsWritten l (next + length (c ∷ cs))) (append_assoc es (e ∷ []) (input_entries (next + 1) cs))
    (subst (IsWritten ((es ++ e ∷ []) ++ input_entries (next + 1) cs)) (sym long) rest)

-- the inputs of a formula, from number 1 on
inputs_written : (vars : ℕ) (cs : List Clause) → vars ≤ 2 ^ 63 → length cs ≤ 2 ^ 63
    → list_all (λ c. is_below vars c.lits) cs ≡ true → IsWritten (input_entries 1 cs) (1 + length cs)
inputs_written vars cs few numbers below =
    written_inputs 1 cs [] (omega arith) (omega arith) (small_inputs vars cs few below) written_none

inputs_count : (id : ℕ) (cs : List Clause) → addition_count (input_entries id cs) ≡ 0
inputs_count id [] = refl
inputs_count id (c ∷ cs) = inputs_count (id + 1) cs

inputs_empty : (id : ℕ) (cs : List Clause) → adds_empty (input_entries id cs) ≡ false
inputs_empty id [] = refl
inputs_empty id (c ∷ cs) = inputs_empty (id + 1) cs

inputs_runs : (id : ℕ) (cs : List Clause) → run_count false (input_entries id cs) ≡ 0
inputs_runs id [] = refl
inputs_runs id (c ∷ cs) = let rest = inputs_runs (id + 1) cs in omega arith

-- the number of an input is given
given_of_input : (id : ℕ) (es : List Entry) → list_any (gives_input id) es ≡ true → is_given es id ≡ true
given_of_input id [] h = absurd (false≢true h)
given_of_input id (Input own c ∷ es) h = elim (cases_Bool (own == id)) [
  | inl here ↦ ap (λ b. is_some (option_or (cond b (Some c) None) (clause_given es id))) here
  | inr other ↦
      ap (λ b. is_some (option_or (cond b (Some c) None) (clause_given es id))) other
      ∙ given_of_input id es (sym (ap (λ b. b || list_any (gives_input id) es) other) ∙ h)
]
given_of_input id (Add own c chain ∷ es) h = elim (cases_Bool (own == id)) [
  | inl here ↦ ap (λ b. is_some (option_or (cond b (Some c) None) (clause_given es id))) here
  | inr other ↦
      ap (λ b. is_some (option_or (cond b (Some c) None) (clause_given es id))) other ∙ given_of_input id es h
]
given_of_input id (Delete own ∷ es) h = given_of_input id es h
given_of_input id (End ∷ es) h = given_of_input id es h

-- the inputs are the clauses that the log holds
inputs_held : (id : ℕ) (cs : List Clause) (k : ℕ)
    → clause_numbered (numbered_from id cs) k ≡ clause_held (input_entries id cs) k
inputs_held id cs k = by id cs ∙ sym (ap (λ b. cond b None (clause_given (input_entries id cs) k)) (none id cs))
  where
    none : (n : ℕ) (ds : List Clause) → is_deleted (input_entries n ds) k ≡ false
    none n [] = refl
    none n (d ∷ ds) = none (n + 1) ds

    by : (n : ℕ) (ds : List Clause) → clause_numbered (numbered_from n ds) k ≡ clause_given (input_entries n ds) k
    by n [] = refl
    by n (d ∷ ds) = elim (cases_Bool (n == k)) [
      | inl here ↦
          ap (λ b. cond b (Some d) (clause_numbered (numbered_from (n + 1) ds) k)) here
          ∙ sym (ap (λ b. option_or (cond b (Some d) None) (clause_given (input_entries (n + 1) ds) k)) here)
      | inr other ↦
          ap (λ b. cond b (Some d) (clause_numbered (numbered_from (n + 1) ds) k)) other ∙ by (n + 1) ds
          ∙ sym (ap (λ b. option_or (cond b (Some d) None) (clause_given (input_entries (n + 1) ds) k)) other)
    ]

-- the inputs of a search's log are its clauses
pub inputs_of : (cs : List Clause) (es : List Entry) → IsSearchLog cs es → inputs es ≡ cs
inputs_of cs es log = ap inputs log.order ∙ by 1 cs
  where
    none : (ds : List Entry) → list_all adds_or_deletes ds ≡ true → inputs ds ≡ []
    none [] h = refl
    none (Input id c ∷ ds) h = absurd cc
    none (Add id c chain ∷ ds) h = none ds h
    none (Delete id ∷ ds) h = none ds h
    none (End ∷ ds) h = absurd cc

    by : (id : ℕ) (ds : List Clause) → inputs (input_entries id ds ++ log.learnt) ≡ ds
    by id [] = none log.learnt log.only
    by id (d ∷ ds) = ap (λ l. d ∷ l) (by (id + 1) ds)

-- ---- a search that goes on

inputs_log : (vars : ℕ) (cs : List Clause) → vars ≤ 2 ^ 63 → length cs ≤ 2 ^ 63
    → list_all (λ c. is_below vars c.lits) cs ≡ true → IsSearchLog cs (input_entries 1 cs)
inputs_log vars cs few numbers below =
    let w = inputs_written vars cs few numbers below in
    record {
      learnt = [];
      order = sym (append-nil (input_entries 1 cs));
      only = refl;
      good = w.good;
      earned = w.earned;
      spaced = w.spaced;
      ascending = w.ascending;
      texts = w.texts;
    }

-- the clauses of a formula were written as inputs
pub going_start : (before now : Option (List ℕ)) (vars : ℕ) (cs : List Clause) (next : ℕ)
    → vars ≤ 2 ^ 63 → length cs ≤ 2 ^ 63 → list_all (λ c. is_below vars c.lits) cs ≡ true → next ≡ length cs + 1
    → (tolds : List (Option (List ℕ))) → AreUntold tolds → Takes before now (log_text (input_entries 1 cs))
    → IsGoing before now cs (clause_numbered (numbered_from 1 cs)) next 0 0 tolds
going_start before now vars cs next few numbers below is_next tolds untold takes =
    let w = inputs_written vars cs few numbers below in
    let n : 1 + length cs ≡ next = omega (arith, is_next) in
    record {
      entries = input_entries 1 cs;
      log = inputs_log vars cs few numbers below;
      text = takes;
      same = record {
        there = λ k c h. (c, sym (inputs_held 1 cs k) ∙ h, λ l. refl);
        back = λ k c h. (c, inputs_held 1 cs k ∙ h, λ l. refl);
      };
      not_ended = w.not_ended;
      above = subst (IsAbove (input_entries 1 cs)) n w.above;
      low_inputs = λ id h.
          (let low : id < 1 + length cs = w.above id (given_of_input id (input_entries 1 cs) h) in omega (arith, n));
      few_runs = omega (arith, inputs_runs 1 cs);
      count = inputs_count 1 cs;
      not_empty = inputs_empty 1 cs;
      bumps = untold_inputs tolds untold 1 cs;
    }

-- a front of the inputs is written
pub cut_first : (before now : Option (List ℕ)) (vars budget : ℕ) (cs : List Clause)
    → vars ≤ 2 ^ 63 → length cs ≤ 2 ^ 63 → list_all (λ c. is_below vars c.lits) cs ≡ true
    → TakesPart before now (log_text (input_entries 1 cs)) → IsCut before now cs budget
cut_first before now vars budget cs few numbers below part = record {
  entries = input_entries 1 cs;
  log = inputs_log vars cs few numbers below;
  within = omega (arith, inputs_count 1 cs);
  text = part;
}

-- as many clauses as a slice in memory has
pub few_of : {slice cs : List Clause} → slice ≡ cs → length slice * 24 < 2 ^ 63 → length cs < 2 ^ 63
few_of same few = subst (λ (ds : List Clause). length ds < 2 ^ 63) same (omega arith)

-- nothing is written yet
pub cut_none : (now : Option (List ℕ)) (vars budget : ℕ) (cs slice : List Clause) → vars ≤ 2 ^ 63
    → list_all (λ c. is_below vars c.lits) cs ≡ true → slice ≡ cs → length slice * 24 < 2 ^ 63 → IsCut now now cs budget
cut_none now vars budget cs slice small below same few =
    cut_first now now vars budget cs small (let h : length cs < 2 ^ 63 = few_of same few in omega arith) below
    (part_of_none now (log_text (input_entries 1 cs)))

-- the inputs are written, and no more
pub cut_inputs : (now : Option (List ℕ)) (vars budget : ℕ) (cs : List Clause)
    → vars ≤ 2 ^ 63 → length cs < 2 ^ 63 → list_all (λ c. is_below vars c.lits) cs ≡ true
    → (before : Option (List ℕ)) → Takes before now (log_text (input_entries 1 cs)) → IsCut before now cs budget
cut_inputs now vars budget cs few numbers below before takes =
    cut_first before now vars budget cs few (omega arith) below (part_of_all before now _ takes)

-- a log that is cut may have more additions
pub cut_within : (before now : Option (List ℕ)) (cs : List Clause) (few many : ℕ) → few ≤ many
    → IsCut before now cs few → IsCut before now cs many
cut_within before now cs few many more cut =
    record { entries = cut.entries; log = cut.log; within = omega (arith, cut.within); text = cut.text }

-- what a list holds after an addition under a new number
held-push : (es : List Entry) (id : ℕ) (clause : Clause) (chain : List ℕ) → IsGood es → is_given es id ≡ false
    → (k : ℕ) → clause_held (es ++ Add id clause chain ∷ []) k
    ≡ option_or (clause_held es k) (cond (id == k) (Some clause) None)
held-push es id clause chain good new k = elim (cases_Bool (is_deleted es k)) [
  | inl gone ↦
      let other : (id == k) ≡ false =
      false_from_ne_true _ (λ e. false≢true (sym new ∙ ap (is_given es) (eqb-true id k e)
      ∙ given_from_deleted es good k gone)) in
      ap (λ b. cond b None (clause_given (es ++ Add id clause chain ∷ []) k))
      (any-push (deletes k) es (Add id clause chain) ∙ ap (λ b. b || false) gone)
      ∙ sym (ap₂ (λ b d. option_or (cond b None (clause_given es k)) (cond d (Some clause) None)) gone other)
  | inr still ↦
      ap₂ (λ b o. cond b None o) (any-push (deletes k) es (Add id clause chain) ∙ ap (λ b. b || false) still)
      (clause_given-push es (Add id clause chain) k)
      ∙ sym (ap (λ b. option_or (cond b None (clause_given es k)) (cond (id == k) (Some clause) None)) still)
]

module _ (before middle : Option (List ℕ)) (ins : List Clause) (held : ℕ → Option Clause) (next added runs : ℕ)
    (tolds : List (Option (List ℕ))) (g : IsGoing before middle ins held next added runs tolds) where
  -- the log is written as far as it goes
  pub cut_here : (budget : ℕ) → added ≤ budget → (now : Option (List ℕ)) → now ≡ middle → IsCut before now ins budget
  cut_here budget few now e = record {
    entries = g.entries;
    log = g.log;
    within = omega (arith, g.count);
    text = part_of_all before now (log_text g.entries) (rw e g.text);
  }

  -- the same clauses are held in another order of literals
  pub going_same : (more : ℕ → Option Clause) → AreSameSets more (clause_held g.entries)
      → IsGoing before middle ins more next added runs tolds
  going_same more same = record {
    entries = g.entries;
    log = g.log;
    text = g.text;
    same = same;
    not_ended = g.not_ended;
    above = g.above;
    low_inputs = g.low_inputs;
    few_runs = g.few_runs;
    count = g.count;
    not_empty = g.not_empty;
    bumps = g.bumps;
  }

  module _ (lits : List Lit) (chain : List ℕ) (one : IsAddition held lits chain)
      (text : HasText (Add next (record { lits = lits }) chain)) where
    abbrev addition : Entry
    addition = Add next (record { lits = lits }) chain

    is_new : is_given g.entries next ≡ false
    is_new = next_is_new g.entries next g.above

    is_earned : IsEarnedAddition g.entries next (record { lits = lits }) chain
    is_earned = earned_addition g.entries held next (record { lits = lits }) chain g.not_ended is_new g.same one

    written_then : IsWritten (g.entries ++ addition ∷ []) (next + 1)
    written_then =
        written_more g.entries addition next (record { lits = lits })
        (record {
          good = g.log.good;
          not_ended = g.not_ended;
          earned = g.log.earned;
          spaced = g.log.spaced;
          ascending = g.log.ascending;
          texts = g.log.texts;
          above = g.above;
        })
        is_earned.good is_earned tt g.above text (λ id. refl) refl

    log_more : IsSearchLog ins (g.entries ++ addition ∷ [])
    log_more = record {
      learnt = g.log.learnt ++ addition ∷ [];
      order = ap (λ es. es ++ addition ∷ []) g.log.order
          ∙ append_assoc (input_entries 1 ins) g.log.learnt (addition ∷ []);
      only = all_push adds_or_deletes g.log.learnt addition g.log.only refl;
      good = written_then.good;
      earned = written_then.earned;
      spaced = written_then.spaced;
      ascending = written_then.ascending;
      texts = written_then.texts;
    }

    counted : addition_count (g.entries ++ addition ∷ []) ≡ added + 1
    counted = count-push g.entries addition ∙ ap (λ n. n + 1) g.count

    taken_more : (now : Option (List ℕ)) → Takes middle now (line_of addition)
        → Takes before now (log_text (g.entries ++ addition ∷ []))
    taken_more now takes =
        subst (λ t. Takes before now t) (sym (text-push g.entries addition))
        (takes_more before middle now _ _ g.text takes)

    module _ (turn : ℕ) (is_turn : IsTurn (length tolds) added turn) (more_tolds : List (Option (List ℕ)))
        (tells : TellsAt tolds more_tolds turn (vars_of lits)) where
      bumps_then : TellBumps more_tolds (g.entries ++ addition ∷ [])
      bumps_then =
          bumps_more tolds more_tolds g.entries next (record { lits = lits }) chain turn
          (subst (λ n. IsTurn (length tolds) n turn) (sym g.count) is_turn) tells g.bumps

    -- a clause that is not empty was added, and is held
    pub going_more : (turn : ℕ) → IsTurn (length tolds) added turn → (more_tolds : List (Option (List ℕ)))
        → TellsAt tolds more_tolds turn (vars_of lits) → (now : Option (List ℕ)) (more : ℕ → Option Clause)
        → ((k : ℕ) → more k ≡ option_or (held k) (cond (next == k) (Some (record { lits = lits })) None))
        → is_empty lits ≡ false → Takes middle now (line_of addition)
        → IsGoing before now ins more (next + 1) (added + 1) runs more_tolds
    going_more turn is_turn more_tolds tells now more grown full takes = record {
      entries = g.entries ++ addition ∷ [];
      log = log_more;
      text = taken_more now takes;
      same = sets_more held (clause_held g.entries) more (clause_held (g.entries ++ addition ∷ [])) next lits grown
          (held-push g.entries next (record { lits = lits }) chain g.log.good is_new) g.same;
      not_ended = written_then.not_ended;
      above = written_then.above;
      low_inputs = λ id h.
          (let low : id + added < next =
          g.low_inputs id (sym (or-false (list_any (gives_input id) g.entries))
          ∙ sym (any-push (gives_input id) g.entries addition) ∙ h) in omega arith);
      few_runs = (let same : run_count false (g.entries ++ addition ∷ []) ≡ run_count false g.entries + 0 =
          runs-push false g.entries addition in
          let few : run_count false g.entries ≤ runs = g.few_runs in omega arith);
      count = counted;
      not_empty = any-push is_refutation g.entries addition ∙ ap₂ (λ a b. a || b) g.not_empty full;
      bumps = bumps_then turn is_turn more_tolds tells;
    }

    -- the empty clause was added
    pub refuted_more : (turn : ℕ) → IsTurn (length tolds) added turn → (more_tolds : List (Option (List ℕ)))
        → TellsAt tolds more_tolds turn (vars_of lits) → (now : Option (List ℕ)) → is_empty lits ≡ true
        → Takes middle now (line_of addition) → IsRefuted before now ins (added + 1) more_tolds
    refuted_more turn is_turn more_tolds tells now none takes = record {
      entries = g.entries ++ addition ∷ [];
      log = log_more;
      text = taken_more now takes;
      count = counted;
      empty = any-push is_refutation g.entries addition ∙ ap₂ (λ a b. a || b) g.not_empty none;
      bumps = bumps_then turn is_turn more_tolds tells;
    }

    -- a front of an addition's line was written
    pub cut_more : (now : Option (List ℕ)) → TakesPart middle now (line_of addition) → IsCut before now ins (added + 1)
    cut_more now part = record {
      entries = g.entries ++ addition ∷ [];
      log = log_more;
      within = omega (arith, counted);
      text = subst (λ t. TakesPart before now t) (sym (text-push g.entries addition))
          (part_more before middle now _ _ g.text part);
    }

-- ---- the outcomes

module _ (before now : Option (List ℕ)) (ins : List Clause) (held : ℕ → Option Clause) (next added runs budget : ℕ)
    (tolds : List (Option (List ℕ))) (g : IsGoing before now ins held next added runs tolds) where
  pub done_sat : (values : List Bool) → added < budget → IsLogged before now ins budget tolds (Sat values)
  done_sat values few = record {
    entries = g.entries;
    log = g.log;
    shows = (g.not_empty, omega (arith, g.count));
    text = g.text;
    bumps = g.bumps;
  }

  pub done_unknown : added ≡ budget → IsLogged before now ins budget tolds (Unknown budget)
  done_unknown e = record {
    entries = g.entries;
    log = g.log;
    shows = (g.not_empty, g.count ∙ e);
    text = g.text;
    bumps = g.bumps;
  }

pub done_unsat : (before now : Option (List ℕ)) (ins : List Clause) (added budget : ℕ)
    (tolds : List (Option (List ℕ))) → added ≤ budget → IsRefuted before now ins added tolds
    → IsLogged before now ins budget tolds Unsat
done_unsat before now ins added budget tolds few r = record {
  entries = r.entries;
  log = r.log;
  shows = (r.empty, omega (arith, r.count));
  text = r.text;
  bumps = r.bumps;
}

-- where the log shows it, no assignment satisfies the clauses
pub unsat_shown : {E : Type 0} (before now : Option (List ℕ)) (cs : List Clause) (budget : ℕ)
    (tolds : List (Option (List ℕ))) (r : Result Outcome E) → IfOk r (λ o. IsLogged before now cs budget tolds o)
    → IfOk r (λ o. OnUnsat o (IsUnsatisfiable cs))
unsat_shown before now cs budget tolds (Ok Unsat) l =
    subst IsUnsatisfiable (inputs_of cs l.entries l.log) (unsatisfiable l.entries l.log.good l.shows.0)
unsat_shown before now cs budget tolds (Ok (Sat values)) l = tt
unsat_shown before now cs budget tolds (Ok (Unknown added)) l = tt
unsat_shown before now cs budget tolds (Err e) l = tt
