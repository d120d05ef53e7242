-- Trimmed lists have texts.
use Rattle.std.proofs.Common.{◌≡◌, ◌∙◌, refl, ap, sym, subst, arith, ℕ, ◌+◌, ◌^◌, ◌<◌, ◌≤◌, ◌==◌, Bool, true, false, cond}
use Rattle.std.proofs.Common.{List, [], ◌∷◌, ◌++◌, length, map, Option, Some, None, is_some}
use Rattle.std.specs.List.{AllByRecursion}
use Rattle.std.specs.Option.{option_or}
use Rattle.std.specs.Prelude.{⊤}
use Rattle.std.proofs.lemmas.Bool.{eqb-true, false≢true}
use Rattle.resolution_check.specs.declared.log.Clause.{Clause}
use Rattle.resolution_check.specs.declared.log.Entry.{Entry}
use Rattle.resolution_check.specs.declared.log.Entry.TheVariants.{Input, Add, Delete, End}
use Rattle.resolution_check.specs.Entries.{EachAfter, IsGood, KeepsGood, clause_by, clause_given, is_given}
use Rattle.resolution_check.specs.Text.{HasText, IsNumber, IsSmall}
use Rattle.resolution_check.proofs.Goods.{clause_given-push, given_from_held}
use Rattle.trimmed_logs.specs.Trimmed.{IsNumberedFrom, IsSublist, IsTrimmed, addition_entries, input_entries, none, renamed}
use Rattle.trimmed_logs.specs.Trimmed.{with_first, without_first}
use Rattle.trimmed_logs.proofs.Chains.{is_among, among_first, among_later, resolved_held}

-- the literals of the entry's clause are small
abbrev pub HasSmall : Entry → Type 0
HasSmall (Input id clause) = AllByRecursion IsSmall clause.lits
HasSmall (Add id clause chain) = AllByRecursion IsSmall clause.lits
HasSmall (Delete id) = ⊤
HasSmall End = ⊤

-- ---- numbers

-- the numbers given are from 1 to below the next
abbrev AreBelow : List Entry → ℕ → Type 0
AreBelow done next = (id : ℕ) → is_given done id ≡ true → (0 < id) × (id < next)

below_push : (done : List Entry) (e : Entry) (next more : ℕ) → AreBelow done next → next ≤ more →
    ((id : ℕ) → is_some (clause_by id e) ≡ true → (0 < id) × (id < more)) → AreBelow (done ++ e ∷ []) more
below_push done e next more below le own id given =
    split (clause_given done id) refl (sym (ap is_some (clause_given-push done e id)) ∙ given)
  where
    split : (o : Option Clause) → clause_given done id ≡ o → is_some (option_or o (clause_by id e)) ≡ true →
        (0 < id) × (id < more)
    split (Some c) is h =
        let old = below id (ap is_some is) in
        let low : 0 < id = old.0 in
        let high : id < next = old.1 in
        (low, omega (arith, high, le))
    split None is h = own id h

own_number : (own id next : ℕ) (clause : Clause) → own ≡ next → 0 < next →
    is_some (cond (own == id) (Some clause) None) ≡ true → (0 < id) × (id < next + 1)
own_number own id next clause is some h = split (own == id) refl h
  where
    split : (b : Bool) → (own == id) ≡ b → is_some (cond b (Some clause) None) ≡ true → (0 < id) × (id < next + 1)
    split true same k =
        let one : own ≡ id = eqb-true own id same in (omega (arith, is, some, one), omega (arith, is, one))
    split false same k = absurd (false≢true k)

all_numbers : (ids : List ℕ) → ((id : ℕ) → is_among ids id ≡ true → IsNumber id) → AllByRecursion IsNumber ids
all_numbers [] h = tt
all_numbers (id ∷ ids) h =
    (h id (among_first id ids), all_numbers ids (λ n k. h n (among_later id ids n k)))

numbers_text : (es done : List Entry) (next : ℕ) → IsNumberedFrom next es → EachAfter KeepsGood done es →
    AreBelow done next → AllByRecursion HasSmall es → 0 < next → next + length es ≤ 2 ^ 63 + 1 →
    AllByRecursion HasText es
numbers_text [] done next h good below small some fits = tt
numbers_text (Input id clause ∷ es) done next h good below small some fits =
    let is : id ≡ next = h.0 in
    let more : AreBelow (done ++ Input id clause ∷ []) (next + 1) =
    below_push done (Input id clause) next (next + 1) below (omega arith)
    (λ n k. own_number id n next clause is some k) in (
      (((omega (arith, is, some), omega (arith, is, fits)), small.0)),
      numbers_text es (done ++ Input id clause ∷ []) (next + 1) h.1 good.1 more small.1 (omega arith)
          (omega (arith, fits)),
    )
numbers_text (Add id clause chain ∷ es) done next h good below small some fits =
    let is : id ≡ next = h.0 in
    let sound = good.0.1 in
    let more : AreBelow (done ++ Add id clause chain ∷ []) (next + 1) =
    below_push done (Add id clause chain) next (next + 1) below (omega arith)
    (λ n k. own_number id n next clause is some k) in
    let chains : AllByRecursion IsNumber chain =
    all_numbers chain (λ n among.
    let given = below n (given_from_held done n (resolved_held _ chain sound.1 sound.2 n among)) in
    let low : 0 < n = given.0 in
    let high : n < next = given.1 in
    (low, omega (arith, high, fits))) in (
      ((omega (arith, is, some), omega (arith, is, fits)), small.0, chains),
      numbers_text es (done ++ Add id clause chain ∷ []) (next + 1) h.1 good.1 more small.1 (omega arith)
          (omega (arith, fits)),
    )
numbers_text (Delete id ∷ es) done next h good below small some fits =
    let given = below id (given_from_held done id good.0.1) in
    let low : 0 < id = given.0 in
    let high : id < next = given.1 in
    let more : AreBelow (done ++ Delete id ∷ []) next =
    below_push done (Delete id) next next below (omega arith) (λ n k. absurd (false≢true k)) in (
      (low, omega (arith, high, fits)),
      numbers_text es (done ++ Delete id ∷ []) next h good.1 more small.1 some (omega (arith, fits)),
    )
numbers_text (End ∷ es) done next h good below small some fits =
    let more : AreBelow (done ++ End ∷ []) next =
    below_push done End next next below (omega arith) (λ n k. absurd (false≢true k)) in
    (tt, numbers_text es (done ++ End ∷ []) next h good.1 more small.1 some (omega (arith, fits)))

-- ---- literals

small_text : (e : Entry) → HasText e → HasSmall e
small_text (Input id clause) h = h.1
small_text (Add id clause chain) h = h.1
small_text (Delete id) h = tt
small_text End h = tt

all_small : (es : List Entry) → AllByRecursion HasText es → AllByRecursion HasSmall es
all_small [] h = tt
all_small (e ∷ es) h = (small_text e h.0, all_small es h.1)

small_inputs : (es : List Entry) → AllByRecursion HasSmall es → AllByRecursion HasSmall (input_entries es)
small_inputs [] h = tt
small_inputs (Input id clause ∷ es) h = (h.0, small_inputs es h.1)
small_inputs (Add id clause chain ∷ es) h = small_inputs es h.1
small_inputs (Delete id ∷ es) h = small_inputs es h.1
small_inputs (End ∷ es) h = small_inputs es h.1

small_additions : (es : List Entry) → AllByRecursion HasSmall es → AllByRecursion HasSmall (addition_entries es)
small_additions [] h = tt
small_additions (Input id clause ∷ es) h = small_additions es h.1
small_additions (Add id clause chain ∷ es) h = (h.0, small_additions es h.1)
small_additions (Delete id ∷ es) h = small_additions es h.1
small_additions (End ∷ es) h = small_additions es h.1

small_some : {some all : List Entry} → IsSublist some all → AllByRecursion HasSmall all → AllByRecursion HasSmall some
small_some none h = tt
small_some (with_first s) h = (h.0, small_some s h.1)
small_some (without_first s) h = small_some s h.1

small_renamed : (name : ℕ → ℕ) (es : List Entry) → AllByRecursion HasSmall es →
    AllByRecursion HasSmall (map (renamed name) es)
small_renamed name [] h = tt
small_renamed name (Input id clause ∷ es) h = (h.0, small_renamed name es h.1)
small_renamed name (Add id clause chain ∷ es) h = (h.0, small_renamed name es h.1)
small_renamed name (Delete id ∷ es) h = (tt, small_renamed name es h.1)
small_renamed name (End ∷ es) h = (tt, small_renamed name es h.1)

small_both : (xs ys : List Entry) → AllByRecursion HasSmall xs → AllByRecursion HasSmall ys →
    AllByRecursion HasSmall (xs ++ ys)
small_both [] ys h k = k
small_both (x ∷ xs) ys h k = (h.0, small_both xs ys h.1 k)

-- a trimmed form of entries that have texts has texts, where it is short enough
pub trimmed_texts : (es t : List Entry) → AllByRecursion HasText es → IsTrimmed (es ++ End ∷ []) t → IsGood t →
    length t ≤ 2 ^ 63 → AllByRecursion HasText t
trimmed_texts es t texts f good fits =
    let all : AllByRecursion HasSmall (es ++ End ∷ []) = small_both es (End ∷ []) (all_small es texts) (tt, tt) in
    let kept = small_renamed f.name (f.front ++ f.last ∷ [])
    (small_some f.some (small_additions (es ++ End ∷ []) all)) in
    let whole = small_both (input_entries (es ++ End ∷ [])) (map (renamed f.name) (f.front ++ f.last ∷ []) ++ End ∷ [])
    (small_inputs (es ++ End ∷ []) all)
    (small_both (map (renamed f.name) (f.front ++ f.last ∷ [])) (End ∷ []) kept (tt, tt)) in
    let S : List Entry → Type 0 = λ xs. AllByRecursion HasSmall xs in
    numbers_text t [] 1 f.numbered good (λ id given. absurd (false≢true given)) (subst S (sym f.parts) whole)
    (omega arith) (omega (arith, fits))
