-- The order of entries, one entry more.
use Rattle.std.proofs.Common.{◌≡◌, ◌∙◌, refl, ap, ap₂, sym, subst, arith, ℕ, ◌+◌, ◌≤◌, ◌==◌, Bool, true, false, not, ◌||◌, cond}
use Rattle.std.proofs.Common.{List, [], ◌∷◌, ◌++◌, length, length-append, Some, None, max, append_assoc, option_map}
use Rattle.std.specs.List.{list_any}
use Rattle.std.proofs.lemmas.Bool.{and_parts, eqb-true, true≢false, not-true}
use Rattle.std.proofs.lemmas.List.{append-nil}
use Rattle.std.proofs.lemmas.List.Elements.{filter-append}
use Rattle.resolution_check.specs.declared.log.Entry.{Entry}
use Rattle.resolution_check.specs.declared.log.Entry.TheVariants.{Input, Add, Delete, End}
use Rattle.resolution_check.specs.declared.log.Clause.{Clause}
use Rattle.resolution_check.specs.declared.log.Bad.{Bad}
use Rattle.resolution_check.specs.Entries.{KeepsGood, fault_of, is_end}
use Rattle.resolution_check.specs.Known.{HasRead, Known}
use Rattle.resolution_check.specs.Text.{HasText}
use Rattle.resolution_check.proofs.Goods.{any-push, each_last, free_from_kept}
use Rattle.log_checker.specs.declared.cause.Cause.TheVariants.{BadLine, Refused}
use Rattle.log_checker.proofs.Fronts.{all-push}
use Rattle.trimmed_logs.specs.declared.holding.Order.{Order}
use Rattle.trimmed_logs.specs.Held.{AreInputs, IsHeld, IsOrder}
use Rattle.trimmed_logs.specs.Logs.{entry_cause, is_orderly, is_step, number_given, top}
use Rattle.trimmed_logs.specs.Trimmed.{HasInputsFirst, IsNumberedFrom, input_entries, is_input}

top-push : (es : List Entry) (e : Entry) → top (es ++ e ∷ []) ≡ max (top es) (number_given e)
top-push [] e = omega arith
top-push (d ∷ es) e =
    let rest : top (es ++ e ∷ []) ≡ max (top es) (number_given e) = top-push es e in omega (arith, rest)

-- one entry more
pub order_push : (old new : Order) (es : List Entry) (e : Entry) → IsOrder old es →
    new.top ≡ max old.top (number_given e) → new.begun ≡ (old.begun || is_step e) → IsOrder new (es ++ e ∷ [])
order_push old new es e o is_top is_begun = record {
  top = is_top ∙ ap (λ n. max n (number_given e)) o.top ∙ sym (top-push es e);
  begun = is_begun ∙ ap (λ b. b || is_step e) o.begun ∙ sym (any-push is_step es e);
}

-- an entry that goes on from the checker's list
pub free_of : (known : Known) (es : List Entry) (e : Entry) → HasRead known (es ++ e ∷ []) → is_orderly es e ≡ true →
    entry_cause es e ≡ None
free_of known es e read orderly =
    let free : fault_of es e ≡ None = free_from_kept es e (each_last KeepsGood es e read.good) in
    ap (λ b. cond b (option_map Refused (fault_of es e)) (Some BadLine)) orderly ∙ ap (option_map Refused) free

-- and one that the checker refuses
pub bad_of : (es : List Entry) (e : Entry) (bad : Bad) → fault_of es e ≡ Some bad → is_orderly es e ≡ true →
    entry_cause es e ≡ Some (Refused bad)
bad_of es e bad fault orderly =
    ap (λ b. cond b (option_map Refused (fault_of es e)) (Some BadLine)) orderly ∙ ap (option_map Refused) fault

-- and one out of order
pub out_of_order : (es : List Entry) (e : Entry) → is_orderly es e ≡ false → entry_cause es e ≡ Some BadLine
out_of_order es e h = ap (λ b. cond b (option_map Refused (fault_of es e)) (Some BadLine)) h

-- ---- inputs stand first

filter_short : (es : List Entry) → length (input_entries es) ≤ length es
filter_short [] = omega arith
filter_short (Input id clause ∷ es) = let h = filter_short es in omega (arith, h)
filter_short (Add id clause chain ∷ es) = let h = filter_short es in omega (arith, h)
filter_short (Delete id ∷ es) = let h = filter_short es in omega (arith, h)
filter_short (End ∷ es) = let h = filter_short es in omega (arith, h)

too_short : (es : List Entry) (e : Entry) → input_entries es ≡ e ∷ es → ⊥
too_short es e h =
    let long : length (input_entries es) ≡ length (e ∷ es) = ap length h in
    let short = filter_short es in absurd (omega (arith, long, short))

numbered_push : (es : List Entry) (next id : ℕ) (clause : Clause) → input_entries es ≡ es →
    IsNumberedFrom next es → id ≡ length es + next → IsNumberedFrom next (es ++ Input id clause ∷ [])
numbered_push [] next id clause same h is = (is ∙ omega arith, tt)
numbered_push (Input own c ∷ es) next id clause same h is =
    let rest : input_entries es ≡ es = cc in
    let place : id ≡ length es + (next + 1) = omega (arith, is) in
    (h.0, numbered_push es (next + 1) id clause rest h.1 place)
numbered_push (Add own c chain ∷ es) next id clause same h is = absurd (too_short es (Add own c chain) same)
numbered_push (Delete own ∷ es) next id clause same h is = absurd (too_short es (Delete own) same)
numbered_push (End ∷ es) next id clause same h is = absurd (too_short es End same)

-- an input behind inputs
inputs_push : (es : List Entry) (id : ℕ) (clause : Clause) → AreInputs es → id ≡ top es + 1 →
    AreInputs (es ++ Input id clause ∷ [])
inputs_push es id clause a is =
    let count = a.count in
    let place : id ≡ length es + 1 = omega (arith, is, count) in
    let tops = top-push es (Input id clause) in
    let long : length (es ++ Input id clause ∷ []) ≡ length es + 1 = length-append es (Input id clause ∷ []) in
    record {
      same = filter-append is_input es (Input id clause ∷ []) ∙ ap (λ xs. xs ++ Input id clause ∷ []) a.same;
      numbered = numbered_push es 1 id clause a.same a.numbered place;
      count = omega (arith, tops, long, place, count);
    }

first_inputs : (es : List Entry) → AreInputs es → HasInputsFirst es
first_inputs es a = record {
  others = [];
  first = sym (append-nil (input_entries es) ∙ a.same);
  none = refl;
  numbered = subst (λ (xs : List Entry). IsNumberedFrom 1 xs) (sym a.same) a.numbered;
}

-- an entry that is no input
first_step : (es : List Entry) (e : Entry) → is_input e ≡ false → HasInputsFirst es → HasInputsFirst (es ++ e ∷ [])
first_step es e other f =
    let none : input_entries (e ∷ []) ≡ [] = ap (λ b. cond b (e ∷ []) []) other in
    let same : input_entries (es ++ e ∷ []) ≡ input_entries es =
    filter-append is_input es (e ∷ []) ∙ ap (λ xs. input_entries es ++ xs) none ∙ append-nil (input_entries es) in
    record {
      others = f.others ++ e ∷ [];
      first = ap (λ xs. xs ++ e ∷ []) f.first ∙ append_assoc (input_entries es) f.others (e ∷ [])
          ∙ ap (λ xs. xs ++ (f.others ++ e ∷ [])) (sym same);
      none = any-push is_input f.others e ∙ ap₂ (λ a b. a || b) f.none other;
      numbered = subst (λ (xs : List Entry). IsNumberedFrom 1 xs) (sym same) f.numbered;
    }

-- the end too
pub first_end : (es : List Entry) → HasInputsFirst es → HasInputsFirst (es ++ End ∷ [])
first_end es f = first_step es End refl f

orderly_input : (es : List Entry) (id : ℕ) (clause : Clause) → is_orderly es (Input id clause) ≡ true →
    (list_any is_step es ≡ false) × (id ≡ top es + 1)
orderly_input es id clause h =
    let parts = and_parts (not (list_any is_step es)) (id == top es + 1) h in
    (not-true (list_any is_step es) parts.0, eqb-true id (top es + 1) parts.1)

stepped : (es : List Entry) (e : Entry) → is_step e ≡ true → list_any is_step (es ++ e ∷ []) ≡ true
stepped es e h = any-push is_step es e ∙ ap (λ b. list_any is_step es || b) h ∙ or_true (list_any is_step es)
  where
    or_true : (b : Bool) → (b || true) ≡ true
    or_true true = refl
    or_true false = refl

inputs_both : (es : List Entry) (e : Entry) → is_orderly es e ≡ true → (list_any is_step es ≡ false → AreInputs es) →
    HasInputsFirst es →
    (list_any is_step (es ++ e ∷ []) ≡ false → AreInputs (es ++ e ∷ [])) × HasInputsFirst (es ++ e ∷ [])
inputs_both es (Input id clause) orderly only f =
    let parts = orderly_input es id clause orderly in
    let all : AreInputs (es ++ Input id clause ∷ []) = inputs_push es id clause (only parts.0) parts.1 in
    ((λ h. all), first_inputs (es ++ Input id clause ∷ []) all)
inputs_both es (Add id clause chain) orderly only f =
    (λ h. absurd (true≢false (sym (stepped es (Add id clause chain) refl) ∙ h)), first_step es (Add id clause chain) refl f)
inputs_both es (Delete id) orderly only f =
    (λ h. absurd (true≢false (sym (stepped es (Delete id) refl) ∙ h)), first_step es (Delete id) refl f)
inputs_both es End orderly only f =
    (λ h. absurd (true≢false (sym (stepped es End refl) ∙ h)), first_step es End refl f)

-- the section goes on with the entry
pub held_push : (known : Known) (old new : Order) (es : List Entry) (e : Entry) (before : Known) →
    IsHeld before old es → HasRead known (es ++ e ∷ []) → is_orderly es e ≡ true → HasText e → is_end e ≡ false →
    IsOrder new (es ++ e ∷ []) → IsHeld known new (es ++ e ∷ [])
held_push known old new es e before h read orderly text goes_on order =
    let both = inputs_both es e orderly h.inputs h.first in record {
      read = read;
      orderly = order;
      texts = all-push HasText es e h.texts text;
      goes_on = any-push is_end es e ∙ ap₂ (λ a b. a || b) h.goes_on goes_on;
      inputs = both.0;
      first = both.1;
    }

-- nothing was read yet
pub held_none : (known : Known) (order : Order) → HasRead known [] → order.top ≡ 0 → order.begun ≡ false →
    IsHeld known order []
held_none known order read is_top is_begun = record {
  read = read;
  orderly = record { top = is_top; begun = is_begun };
  texts = tt;
  goes_on = refl;
  inputs = λ h. record { same = refl; numbered = tt; count = refl };
  first = record { others = []; first = refl; none = refl; numbered = tt };
}
