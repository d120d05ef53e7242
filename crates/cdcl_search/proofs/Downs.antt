-- The log of a search that deletes clauses.
use Rattle.std.proofs.Common.{◌≡◌, ◌≢◌, ◌⊎◌, ℕ, ◌+◌, ◌*◌, ◌/◌, ◌%◌, ◌<◌, ◌≤◌, ◌==◌, Bool, true, false, cond}
use Rattle.std.proofs.Common.{◌||◌, List}
use Rattle.std.proofs.Common.{[], ◌∷◌, ◌++◌, length, Option, Some, None, is_some, not, refl, sym, ap, ap₂, subst, ◌∙◌}
use Rattle.std.proofs.Common.{arith, inl, inr, append_assoc, add-zero}
use Rattle.std.specs.Option.{option_or}
use Rattle.std.specs.List.{list_any}
use Rattle.std.proofs.Math.Bool.{or-false}
use Rattle.std.proofs.lemmas.Bool.{cases_Bool, false_from_ne_true, false≢true, or_cases}
use Rattle.std.proofs.lemmas.Nat.{mul-le}
use Rattle.mw_outside.specs.Taken.{Takes, TakesPart, takes_more, part_more}
use Rattle.resolution_check.specs.declared.log.Lit.{Lit}
use Rattle.resolution_check.specs.declared.log.Clause.{Clause}
use Rattle.resolution_check.specs.declared.log.Entry.{Entry}
use Rattle.resolution_check.specs.declared.log.Entry.TheVariants.{Input, Add, Delete, End}
use Rattle.resolution_check.specs.Clauses.{has, is_same, IsSameSet}
use Rattle.resolution_check.specs.Entries.{addition_count, clause_given, clause_held, deletes, is_deleted, is_end}
use Rattle.resolution_check.specs.Entries.{is_refutation, KeepsGood}
use Rattle.resolution_check.specs.Earned.{ends_deleting, gives_input, lit_count, run_count}
use Rattle.resolution_check.specs.Earned.{GoesUp, IsEarned, MayDelete, MayFollow}
use Rattle.resolution_check.specs.Text.{HasText, line_of}
use Rattle.resolution_check.proofs.Accepted.{count-push}
use Rattle.resolution_check.proofs.Goods.{any-push, clause_given-push, each_push, given_of_held}
use Rattle.resolution_check.proofs.Literals.{same_lit}
use Rattle.resolution_check.proofs.LogLines.{text-push}
use Rattle.clause_arena.specs.Store.{Store}
use Rattle.clause_arena.specs.Held.{held_in}
use Rattle.watched_search.specs.Sets.{GivesSets}
use Rattle.watched_search.proofs.Places.{all_push}
use Rattle.cdcl_search.specs.Outcomes.{adds_or_deletes, input_entries, IsCut, IsSearchLog}
use Rattle.cdcl_search.specs.Going.{IsGoing}
use Rattle.cdcl_search.specs.Reductions.{CutsDown, CutsReduced, GoesDown, GoesOnReduced, IsReducing}
use Rattle.cdcl_search.specs.Turns.{bumps_of, vars_of}
use Rattle.cdcl_search.proofs.Logs.{texts_push}
use Rattle.cdcl_search.proofs.Reduced.{HasThree}
use Rattle.cdcl_search.proofs.Runs.{ends-push, runs-push}

-- ---- literals, each counted once

-- where a literal repeats, all stand in the rest
in_rest : (l k : Lit) (c : List Lit) → has c l ≡ true → has (l ∷ c) k ≡ true → has c k ≡ true
in_rest l k c again h = elim (or_cases (is_same k l) (has c k) h) [
  | inl same ↦ ap (has c) (same_lit k l same) ∙ again
  | inr rest ↦ rest
]

none_counted : (c : List Lit) (l : Lit) → lit_count c ≡ 0 → has c l ≡ true → ⊥
none_counted [] l none h = false≢true h
none_counted (m ∷ c) l none h = elim (cases_Bool (has c m)) [
  | inl again ↦
      let same : 0 + lit_count c ≡ 0 = sym (ap (λ b. cond b 0 1 + lit_count c) again) ∙ none in
      none_counted c l (omega arith) (in_rest m l c again h)
  | inr once ↦
      let some : 1 + lit_count c ≡ 0 = sym (ap (λ b. cond b 0 1 + lit_count c) once) ∙ none in absurd (omega arith)
]

-- a literal that is counted once is the first one or stands in the rest
first_or : (l k : Lit) (c : List Lit) → has (l ∷ c) k ≡ true → (k ≡ l) ⊎ (has c k ≡ true)
first_or l k c h =
    elim (or_cases (is_same k l) (has c k) h) [ inl same ↦ inl (same_lit k l same) | inr rest ↦ inr rest ]

one_counted : (c : List Lit) (k l : Lit) → lit_count c ≤ 1 → has c k ≡ true → has c l ≡ true → k ≡ l
one_counted [] k l few h i = absurd (false≢true h)
one_counted (m ∷ c) k l few h i = elim (cases_Bool (has c m)) [
  | inl again ↦
      let same : lit_count (m ∷ c) ≡ 0 + lit_count c = ap (λ b. cond b 0 1 + lit_count c) again in
      one_counted c k l (omega arith) (in_rest m k c again h) (in_rest m l c again i)
  | inr once ↦
      let more : lit_count (m ∷ c) ≡ 1 + lit_count c = ap (λ b. cond b 0 1 + lit_count c) once in
      elim (first_or m k c h) [
        | inr rest ↦ absurd (none_counted c k (omega arith) rest)
        | inl one ↦ elim (first_or m l c i) [
          | inr rest ↦ absurd (none_counted c l (omega arith) rest)
          | inl two ↦ one ∙ sym two
        ]
      ]
]

two_counted : (c : List Lit) → lit_count c ≤ 2 → HasThree c → ⊥
two_counted [] few t = false≢true t.in_one
two_counted (m ∷ c) few t = elim (cases_Bool (has c m)) [
  | inl again ↦
      let same : lit_count (m ∷ c) ≡ 0 + lit_count c = ap (λ b. cond b 0 1 + lit_count c) again in
      two_counted c (omega arith) (record {
        one = t.one;
        two = t.two;
        three = t.three;
        in_one = in_rest m t.one c again t.in_one;
        in_two = in_rest m t.two c again t.in_two;
        in_three = in_rest m t.three c again t.in_three;
        first = t.first;
        second = t.second;
        third = t.third;
      })
  | inr once ↦
      let more : lit_count (m ∷ c) ≡ 1 + lit_count c = ap (λ b. cond b 0 1 + lit_count c) once in
      let few_rest : lit_count c ≤ 1 = omega arith in
      elim (first_or m t.one c t.in_one) [
        | inl one ↦ elim (first_or m t.two c t.in_two) [
          | inl two ↦ t.first (one ∙ sym two)
          | inr two ↦ elim (first_or m t.three c t.in_three) [
            | inl three ↦ t.third (one ∙ sym three)
            | inr three ↦ t.second (one_counted c t.two t.three few_rest two three)
          ]
        ]
        | inr one ↦ elim (first_or m t.two c t.in_two) [
          | inr two ↦ t.first (one_counted c t.one t.two few_rest one two)
          | inl two ↦ elim (first_or m t.three c t.in_three) [
            | inl three ↦ t.second (two ∙ sym three)
            | inr three ↦ t.third (one_counted c t.one t.three few_rest one three)
          ]
        ]
      ]
]

three_same : (c d : List Lit) → IsSameSet c d → HasThree c → HasThree d
three_same c d same t = record {
  one = t.one;
  two = t.two;
  three = t.three;
  in_one = sym (same t.one) ∙ t.in_one;
  in_two = sym (same t.two) ∙ t.in_two;
  in_three = sym (same t.three) ∙ t.in_three;
  first = t.first;
  second = t.second;
  third = t.third;
}

-- ---- one deletion more

bumps_deleted : (n own added : ℕ) (es : List Entry) (id : ℕ)
    → bumps_of n own added (es ++ Delete id ∷ []) ≡ bumps_of n own added es
bumps_deleted n own added [] id = refl
bumps_deleted n own added (Input i c ∷ es) id = bumps_deleted n own added es id
bumps_deleted n own added (Add i c chain ∷ es) id =
    ap (λ xs. cond ((added / 256) % n == own) (vars_of c.lits) [] ++ xs) (bumps_deleted n own (added + 1) es id)
bumps_deleted n own added (Delete i ∷ es) id = bumps_deleted n own added es id
bumps_deleted n own added (End ∷ es) id = bumps_deleted n own added es id

given_still : (es : List Entry) (id k : ℕ) → clause_given (es ++ Delete id ∷ []) k ≡ clause_given es k
given_still es id k = clause_given-push es (Delete id) k ∙ by (clause_given es k)
  where
    by : (o : Option Clause) → option_or o None ≡ o
    by None = refl
    by (Some c) = refl

-- what a list holds after a deletion
held_deleted : (es : List Entry) (id k : ℕ)
    → clause_held (es ++ Delete id ∷ []) k ≡ cond (id == k) None (clause_held es k)
held_deleted es id k =
    ap₂ (λ b o. cond b None o) (any-push (deletes k) es (Delete id)) (given_still es id k)
    ∙ by (is_deleted es k) (id == k)
  where
    by : (a b : Bool) → cond (a || b) None (clause_given es k) ≡ cond b None (cond a None (clause_given es k))
    by true true = refl
    by true false = refl
    by false true = refl
    by false false = refl

gives_less : (f g more less : ℕ → Option Clause) (id : ℕ) → GivesSets f g
    → ((k : ℕ) → more k ≡ cond (id == k) None (f k)) → ((k : ℕ) → less k ≡ cond (id == k) None (g k))
    → GivesSets more less
gives_less f g more less id gives one two k c h = elim (cases_Bool (id == k)) [
  | inl gone ↦
      let clash : None ≡ Some c = sym (ap (λ b. cond b None (f k)) gone) ∙ sym (one k) ∙ h in absurd (cc)
  | inr still ↦
      let d = gives k c (sym (ap (λ b. cond b None (f k)) still) ∙ sym (one k) ∙ h) in
      (d.0, two k ∙ ap (λ b. cond b None (g k)) still ∙ d.1, d.2)
]

-- a run owes no more additions than a later one
owed : (few many added : ℕ) → few ≤ many → 1000 * (many + 1) * (many + 2) ≤ added
    → 1000 * (few + 1) * (few + 2) ≤ added
owed few many added low due =
    let one : 1000 * (few + 1) ≤ 1000 * (many + 1) = omega arith in
    let two : few + 2 ≤ many + 2 = omega arith in
    let three = mul-le (1000 * (few + 1)) (few + 2) (1000 * (many + 1)) (many + 2) one two in omega arith

module _ (before middle : Option (List ℕ)) (ins : List Clause) (held : ℕ → Option Clause) (next added runs : ℕ)
    (tolds : List (Option (List ℕ))) (g : IsReducing before middle ins held next added runs tolds) (id : ℕ)
    (lits : List Lit) (there : held id ≡ Some (record { lits = lits })) (learnt : next ≤ id + added)
    (three : HasThree lits) (text : HasText (Delete id)) where
  abbrev deletion : Entry
  deletion = Delete id

  abbrev es : List Entry
  es = g.going.entries

  in_log : (d : Clause) × (clause_held g.going.entries id ≡ Some d) × IsSameSet lits d.lits
  in_log = g.going.same.there id (record { lits = lits }) there

  keeps_good : KeepsGood g.going.entries (Delete id)
  keeps_good = (g.going.not_ended, ap is_some in_log.1)

  no_input : list_any (gives_input id) g.going.entries ≡ false
  no_input =
      false_from_ne_true _ (λ given.
      (let low : id + added < next = g.going.low_inputs id given in omega arith))

  is_long : (c : Clause) → clause_given g.going.entries id ≡ Some c → (lit_count c.lits ≢ 1) × (lit_count c.lits ≢ 2)
  is_long c given =
      let is : Some in_log.0 ≡ Some c = sym (given_of_held g.going.entries id in_log.0 in_log.1) ∙ given in
      let own : in_log.0 ≡ c = cc in
      let t : HasThree c.lits =
      subst (λ (k : Clause). HasThree k.lits) own (three_same lits in_log.0.lits in_log.2 three) in
      (λ e. two_counted c.lits (omega arith) t, λ e. two_counted c.lits (omega arith) t)

  may_delete : MayDelete g.going.entries id
  may_delete = record {
    no_input = no_input;
    long = is_long;
    apart = elim g.apart [
      | inl ends ↦ inl ends
      | inr few ↦ inr (owed (run_count false g.going.entries) runs (addition_count g.going.entries) few
          (let same : addition_count g.going.entries ≡ added = g.going.count in
          let due : 1000 * (runs + 1) * (runs + 2) ≤ added = g.due in
          subst (λ n. 1000 * (runs + 1) * (runs + 2) ≤ n) (sym same) due))
    ];
  }

  log_less : IsSearchLog ins (g.going.entries ++ Delete id ∷ [])
  log_less = record {
    learnt = g.going.log.learnt ++ Delete id ∷ [];
    order = ap (λ ds. ds ++ Delete id ∷ []) g.going.log.order
        ∙ append_assoc (input_entries 1 ins) g.going.log.learnt (Delete id ∷ []);
    only = all_push adds_or_deletes g.going.log.learnt (Delete id) g.going.log.only refl;
    good = each_push KeepsGood g.going.entries (Delete id) g.going.log.good keeps_good;
    earned = each_push IsEarned g.going.entries (Delete id) g.going.log.earned tt;
    spaced = each_push MayFollow g.going.entries (Delete id) g.going.log.spaced may_delete;
    ascending = each_push GoesUp g.going.entries (Delete id) g.going.log.ascending tt;
    texts = texts_push g.going.entries (Delete id) g.going.log.texts text;
  }

  count_same : addition_count (g.going.entries ++ Delete id ∷ []) ≡ added
  count_same = count-push g.going.entries (Delete id) ∙ add-zero (addition_count g.going.entries) ∙ g.going.count

  any_same : (p : Entry → Bool) → p (Delete id) ≡ false
      → list_any p (g.going.entries ++ Delete id ∷ []) ≡ list_any p g.going.entries
  any_same p none =
      any-push p g.going.entries (Delete id) ∙ ap (λ b. list_any p g.going.entries || b) none
      ∙ or-false (list_any p g.going.entries)

  few_after : run_count false (g.going.entries ++ Delete id ∷ []) ≤ runs + 1
  few_after =
      let e : run_count false (g.going.entries ++ Delete id ∷ [])
      ≡ run_count false g.going.entries + cond (not (ends_deleting false g.going.entries)) 1 0 =
      runs-push false g.going.entries (Delete id) in
      elim g.apart [
        | inl ends ↦
            let none : cond (not (ends_deleting false g.going.entries)) 1 0 ≡ 0 = ap (λ b. cond (not b) 1 0) ends in
            let few : run_count false g.going.entries ≤ runs + 1 = g.going.few_runs in
            subst (λ n. n ≤ runs + 1) (sym (e ∙ ap (λ n. run_count false g.going.entries + n) none
            ∙ add-zero (run_count false g.going.entries))) few
        | inr few ↦
            let one : cond (not (ends_deleting false g.going.entries)) 1 0 ≤ 1 =
            at_most (ends_deleting false g.going.entries) in omega arith
      ]
    where
      at_most : (b : Bool) → cond (not b) 1 0 ≤ 1
      at_most true = omega arith
      at_most false = omega arith

  -- the line was written, and the clause is not held any more
  pub reduced_more : (now : Option (List ℕ)) (less : ℕ → Option Clause)
      → ((k : ℕ) → less k ≡ cond (id == k) None (held k)) → Takes middle now (line_of (Delete id))
      → IsReducing before now ins less next added runs tolds
  reduced_more now less is_less takes = record {
    going = record {
      entries = g.going.entries ++ Delete id ∷ [];
      log = log_less;
      text = subst (λ t. Takes before now t) (sym (text-push g.going.entries (Delete id)))
          (takes_more before middle now _ _ g.going.text takes);
      same = record {
        there = gives_less held (clause_held g.going.entries) less (clause_held (g.going.entries ++ Delete id ∷ [])) id
            g.going.same.there is_less (held_deleted g.going.entries id);
        back = gives_less (clause_held g.going.entries) held (clause_held (g.going.entries ++ Delete id ∷ [])) less id
            g.going.same.back (held_deleted g.going.entries id) is_less;
      };
      not_ended = any_same is_end refl ∙ g.going.not_ended;
      above = λ other given.
          g.going.above other (sym (ap is_some (given_still g.going.entries id other)) ∙ given);
      low_inputs = λ other given. g.going.low_inputs other (sym (any_same (gives_input other) refl) ∙ given);
      few_runs = few_after;
      count = count_same;
      not_empty = any_same is_refutation refl ∙ g.going.not_empty;
      bumps = λ own bumps told.
          g.going.bumps own bumps told ∙ sym (bumps_deleted (length tolds) own 0 g.going.entries id);
    };
    due = g.due;
    apart = inl (ends-push false g.going.entries (Delete id));
  }

  -- a front of the line was written
  pub reduced_cut : (now : Option (List ℕ)) → TakesPart middle now (line_of (Delete id)) → IsCut before now ins added
  reduced_cut now part = record {
    entries = g.going.entries ++ Delete id ∷ [];
    log = log_less;
    within = omega (arith, count_same);
    text = subst (λ t. TakesPart before now t) (sym (text-push g.going.entries (Delete id)))
        (part_more before middle now _ _ g.going.text part);
  }

-- ---- from one moment to a later one

-- nothing was deleted
pub down_none : (old : Option (List ℕ)) (a : Store) (first added : ℕ) → GoesDown old old a a first added
down_none old a first added = record { inputs = λ id c low h. h; going = λ before ins runs tolds g. g }

pub down_then : (old middle new : Option (List ℕ)) (a b c : Store) (first added : ℕ)
    → GoesDown old middle a b first added → GoesDown middle new b c first added → GoesDown old new a c first added
down_then old middle new a b c first added f g = record {
  inputs = λ id k low h. g.inputs id k low (f.inputs id k low h);
  going = λ before ins runs tolds r. g.going before ins runs tolds (f.going before ins runs tolds r);
}

-- a later front
pub cuts_then : (old middle new : Option (List ℕ)) (a b : Store) (first added : ℕ)
    → GoesDown old middle a b first added → CutsDown middle new b first added → CutsDown old new a first added
cuts_then old middle new a b first added f cut = λ before ins runs tolds r.
    cut before ins runs tolds (f.going before ins runs tolds r)

-- a search that goes on may begin a run of deletions that is due
module _ (old : Option (List ℕ)) (a : Store) (first added runs : ℕ)
    (due : 1000 * (runs + 1) * (runs + 2) ≤ added) where
  begun : (before : Option (List ℕ)) (ins : List Clause) (tolds : List (Option (List ℕ)))
      → IsGoing before old ins (held_in a) (first + added) added runs tolds
      → IsReducing before old ins (held_in a) (first + added) added runs tolds
  begun before ins tolds g = record {
    going = record {
      entries = g.entries;
      log = g.log;
      text = g.text;
      same = g.same;
      not_ended = g.not_ended;
      above = g.above;
      low_inputs = g.low_inputs;
      few_runs = (let few : run_count false g.entries ≤ runs = g.few_runs in omega arith);
      count = g.count;
      not_empty = g.not_empty;
      bumps = g.bumps;
    };
    due = due;
    apart = inr g.few_runs;
  }

  pub goes_reduced : (new : Option (List ℕ)) (b : Store) → GoesDown old new a b first added
      → GoesOnReduced old new a b first added runs (runs + 1)
  goes_reduced new b down = λ before ins tolds g. (down.going before ins runs tolds (begun before ins tolds g)).going

  pub cuts_reduced : (new : Option (List ℕ)) → CutsDown old new a first added → CutsReduced old new a first added runs
  cuts_reduced new cut = λ before ins tolds g. cut before ins runs tolds (begun before ins tolds g)
