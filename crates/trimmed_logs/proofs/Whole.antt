-- The whole trimmed list.
use Rattle.std.proofs.Common.{◌≡◌, ◌∙◌, refl, ap, ap₂, sym, subst, arith, ℕ, ◌+◌, ◌<◌, ◌==◌, Bool, true, false, not, ◌||◌, cond, nat_lt}
use Rattle.std.proofs.Common.{List, [], ◌∷◌, ◌++◌, length, length-append, map, Some, None, is_some, append_assoc, Result, Ok, Err, IfOk}
use Rattle.std.specs.Prelude.{position}
use Rattle.std.specs.List.{list_any, list_all, position_or_len}
use Rattle.std.specs.Option.{option_or}
use Rattle.std.proofs.lemmas.Bool.{or_parts, or_right, lt-ltb, eqb-true, false≢true}
use Rattle.std.proofs.lemmas.List.Folds.{list_any-append}
use Rattle.resolution_check.specs.declared.log.Entry.{Entry}
use Rattle.resolution_check.specs.declared.log.Entry.TheVariants.{Input, Add, Delete, End}
use Rattle.resolution_check.specs.Entries.{EachAfter, IsGood, KeepsGood, Refutes, adds_empty, clause_given}
use Rattle.resolution_check.specs.Entries.{has_ended, is_deleted, is_end, is_given, is_refutation}
use Rattle.trimmed_logs.specs.Trimmed.{HasInputsFirst, IsNumberedFrom, IsSublist, IsTrimmed, addition_entries, input_entries, is_addition, is_input, renamed}
use Rattle.trimmed_logs.specs.Kept.{kept, numbered, trimmed_of, with_name}
use Rattle.trimmed_logs.proofs.Sound.{IsNamed, each_back, each_both, each_front, sound_from}
use Rattle.trimmed_logs.proofs.Shapes.{kept_are_used, kept_fresh, kept_inputs, kept_nonempty, kept_some, later_new, name_stays}
use Rattle.trimmed_logs.proofs.Shapes.{AreFresh, named_once, names_after, numbers_both, numbers_go_on, same_inputs}

-- ---- where the empty clause is added first

pub record IsSplit (es : List Entry) : Type 0 where
  pub before : List Entry
  pub last : Entry
  pub after : List Entry
  pub is : es ≡ before ++ last ∷ after
  pub first : adds_empty before ≡ false
  pub found : is_refutation last ≡ true
  pub place : position_or_len is_refutation es ≡ length before

split_rest : (e : Entry) (es : List Entry) (b : Bool) → is_refutation e ≡ b → (b || adds_empty es) ≡ true →
    (adds_empty es ≡ true → IsSplit es) → IsSplit (e ∷ es)
split_rest e es true is h rest = record {
  before = [];
  last = e;
  after = es;
  is = refl;
  first = refl;
  found = is;
  place = ap (λ b. cond (not b) (1 + position_or_len is_refutation es) 0) is;
}
split_rest e es false is h rest =
    let s = rest h in
    let place = s.place in record {
      before = e ∷ s.before;
      last = s.last;
      after = s.after;
      is = ap (λ xs. e ∷ xs) s.is;
      first = ap₂ (λ a b. a || b) is s.first;
      found = s.found;
      place = ap (λ b. cond (not b) (1 + position_or_len is_refutation es) 0) is ∙ omega (arith, place);
    }

pub split_empty : (es : List Entry) → adds_empty es ≡ true → IsSplit es
split_empty [] h = absurd (false≢true h)
split_empty (e ∷ es) h = split_rest e es (is_refutation e) refl h (λ k. split_empty es k)

-- the place that is found
pub split_place : (es : List Entry) (s : IsSplit es) → position is_refutation es ≡ Some (length s.before)
split_place es s =
    let long : length es ≡ length s.before + length (s.last ∷ s.after) =
    ap length s.is ∙ length-append s.before (s.last ∷ s.after) in
    let within : length s.before < length es = omega (arith, long) in
    ap (λ n. cond (nat_lt n (length es)) (Some n) None) s.place
    ∙ ap (λ b. cond b (Some (length s.before)) None) (lt-ltb (length s.before) (length es) within)

-- ---- inputs

pub filter_inputs : (es : List Entry) → list_all is_input (input_entries es) ≡ true
filter_inputs [] = refl
filter_inputs (Input id clause ∷ es) = filter_inputs es
filter_inputs (Add id clause chain ∷ es) = filter_inputs es
filter_inputs (Delete id ∷ es) = filter_inputs es
filter_inputs (End ∷ es) = filter_inputs es

-- inputs in front stand before an entry that is none
pub inputs_front : (xs before others after : List Entry) (last : Entry) → list_all is_input xs ≡ true →
    is_input last ≡ false → before ++ last ∷ after ≡ xs ++ others →
    (rest : List Entry) × (before ≡ xs ++ rest) × (others ≡ rest ++ last ∷ after)
inputs_front [] before others after last all another h = (before, refl, sym h)
inputs_front (x ∷ xs) [] others after last all another h =
    let same : last ≡ x = cc in
    absurd (false≢true (sym another ∙ ap is_input same ∙ first x xs all))
  where
    first : (e : Entry) (es : List Entry) → list_all is_input (e ∷ es) ≡ true → is_input e ≡ true
    first (Input id clause) es k = refl
    first (Add id clause chain) es k = absurd (false≢true k)
    first (Delete id) es k = absurd (false≢true k)
    first End es k = absurd (false≢true k)
inputs_front (Input id clause ∷ xs) (b ∷ before) others after last all another h =
    let same : b ≡ Input id clause = cc in
    let more : before ++ last ∷ after ≡ xs ++ others = cc in
    let k = inputs_front xs before others after last all another more in
    (k.0, ap₂ (λ e es. e ∷ es) same k.1, k.2)
inputs_front (Add id clause chain ∷ xs) (b ∷ before) others after last all another h = absurd (false≢true all)
inputs_front (Delete id ∷ xs) (b ∷ before) others after last all another h = absurd (false≢true all)
inputs_front (End ∷ xs) (b ∷ before) others after last all another h = absurd (false≢true all)

-- numbered inputs have numbers below the next
pub inputs_below : (xs : List Entry) (next id : ℕ) → list_all is_input xs ≡ true → IsNumberedFrom next xs →
    is_given xs id ≡ true → id < length xs + next
inputs_below [] next id all h given = absurd (false≢true given)
inputs_below (Input own clause ∷ xs) next id all h given = split (own == id) refl given
    (λ k. inputs_below xs (next + 1) id all h.1 k)
  where
    split : (b : Bool) → (own == id) ≡ b → is_some (option_or (cond b (Some clause) None) (clause_given xs id)) ≡ true →
        (is_given xs id ≡ true → id < length xs + (next + 1)) → id < length (Input own clause ∷ xs) + next
    split true same k rest =
        let is : own ≡ id = eqb-true own id same in
        let first : own ≡ next = h.0 in omega (arith, is, first)
    split false same k rest = let less : id < length xs + (next + 1) = rest k in omega (arith, less)
inputs_below (Add own clause chain ∷ xs) next id all h given = absurd (false≢true all)
inputs_below (Delete own ∷ xs) next id all h given = absurd (false≢true all)
inputs_below (End ∷ xs) next id all h given = absurd (false≢true all)

inputs_whole : (xs : List Entry) (id : ℕ) → list_all is_input xs ≡ true → is_deleted xs id ≡ false
inputs_whole [] id all = refl
inputs_whole (Input own clause ∷ xs) id all = inputs_whole xs id all
inputs_whole (Add own clause chain ∷ xs) id all = absurd (false≢true all)
inputs_whole (Delete own ∷ xs) id all = absurd (false≢true all)
inputs_whole (End ∷ xs) id all = absurd (false≢true all)

inputs_open : (xs : List Entry) → list_all is_input xs ≡ true → has_ended xs ≡ false
inputs_open [] all = refl
inputs_open (Input own clause ∷ xs) all = inputs_open xs all
inputs_open (Add own clause chain ∷ xs) all = absurd (false≢true all)
inputs_open (Delete own ∷ xs) all = absurd (false≢true all)
inputs_open (End ∷ xs) all = absurd (false≢true all)

-- ---- additions under new numbers

numbered_open : (es : List Entry) (next : ℕ) (names : ℕ → ℕ) → has_ended (numbered next names es) ≡ false
unfolding numbered
numbered_open [] next names = refl
numbered_open (Input id clause ∷ es) next names = numbered_open es next names
numbered_open (Add id clause chain ∷ es) next names = numbered_open es (next + 1) (with_name names id next)
numbered_open (Delete id ∷ es) next names = numbered_open es next names
numbered_open (End ∷ es) next names = numbered_open es next names

numbered_empty : (es : List Entry) (last : Entry) (next : ℕ) (names : ℕ → ℕ) → is_refutation last ≡ true →
    adds_empty (numbered next names (es ++ last ∷ [])) ≡ true
unfolding numbered
numbered_empty [] (Input id clause) next names h = absurd (false≢true h)
numbered_empty [] (Add id clause chain) next names h = ap (λ b. b || false) h
numbered_empty [] (Delete id) next names h = absurd (false≢true h)
numbered_empty [] End next names h = absurd (false≢true h)
numbered_empty (Input id clause ∷ es) last next names h = numbered_empty es last next names h
numbered_empty (Add id clause chain ∷ es) last next names h =
    or_right (is_refutation (Add id clause chain)) _ (numbered_empty es last (next + 1) (with_name names id next) h)
numbered_empty (Delete id ∷ es) last next names h = numbered_empty es last next names h
numbered_empty (End ∷ es) last next names h = numbered_empty es last next names h

adds_from : (e : Entry) → is_refutation e ≡ true → is_addition e ≡ true
adds_from (Input id clause) h = absurd (false≢true h)
adds_from (Add id clause chain) h = refl
adds_from (Delete id) h = absurd (false≢true h)
adds_from End h = absurd (false≢true h)

no_input : (e : Entry) → is_refutation e ≡ true → is_input e ≡ false
no_input (Input id clause) h = absurd (false≢true h)
no_input (Add id clause chain) h = refl
no_input (Delete id) h = refl
no_input End h = refl

-- ---- the theorem

-- what the list holds: the inputs, what stands between them and the first empty clause, and the rest
record IsParted (es : List Entry) (s : IsSplit es) : Type 0 where
  pub rest : List Entry
  pub before : s.before ≡ input_entries es ++ rest
  pub no_input : list_any is_input rest ≡ false
  pub inputs_good : IsGood (input_entries es)
  pub good : EachAfter KeepsGood (input_entries es) (rest ++ s.last ∷ [])

parted : (es : List Entry) (s : IsSplit es) → IsGood es → HasInputsFirst es → IsParted es s
parted es s good f =
    let ins = input_entries es in
    let front = inputs_front ins s.before f.others s.after s.last (filter_inputs es) (no_input s.last s.found)
    (sym s.is ∙ f.first) in
    let rest = front.0 in
    let others : f.others ≡ (rest ++ s.last ∷ []) ++ s.after =
    front.2 ∙ sym (append_assoc rest (s.last ∷ []) s.after) in
    let whole : es ≡ ins ++ ((rest ++ s.last ∷ []) ++ s.after) = f.first ∙ ap (λ xs. ins ++ xs) others in
    let G : List Entry → Type 0 = λ xs. EachAfter KeepsGood [] xs in
    let all : EachAfter KeepsGood [] (ins ++ ((rest ++ s.last ∷ []) ++ s.after)) = subst G whole good in
    let none : (list_any is_input rest || list_any is_input (s.last ∷ s.after)) ≡ false =
    sym (list_any-append is_input rest (s.last ∷ s.after)) ∙ ap (list_any is_input) (sym front.2) ∙ f.none in
    record {
      rest = rest;
      before = front.1;
      no_input = (or_parts (list_any is_input rest) (list_any is_input (s.last ∷ s.after)) none).0;
      inputs_good = each_front KeepsGood [] ins ((rest ++ s.last ∷ []) ++ s.after) all;
      good = each_front KeepsGood ins (rest ++ s.last ∷ []) s.after
          (each_back KeepsGood [] ins ((rest ++ s.last ∷ []) ++ s.after) all);
    }

module _ (es : List Entry) (s : IsSplit es) (good : IsGood es) (f : HasInputsFirst es) where
  same_kept : kept s.last s.before ≡ kept s.last (parted es s good f).rest
  same_kept =
      let p = parted es s good f in
      ap (kept s.last) p.before ∙ kept_inputs s.last (input_entries es) p.rest (filter_inputs es)

  pub whole_refutes : Refutes (trimmed_of es s.before s.last)
  whole_refutes =
      let p = parted es s good f in
      let ins = input_entries es in
      let next = length ins + 1 in
      let stays = kept s.last s.before ++ s.last ∷ [] in
      let added = numbered next (λ id. id) stays in
      let below : (id : ℕ) → is_given ins id ≡ true → id < next =
      λ id given. inputs_below ins 1 id (filter_inputs es) f.numbered given in
      let start : IsNamed next (λ id. id) ins ins p.rest s.last = record {
        below = below;
        whole = λ id. inputs_whole ins id (filter_inputs es);
        open_end = inputs_open ins (filter_inputs es);
        named = λ id c needed given. given;
      } in
      let sound : EachAfter KeepsGood ins added =
      subst (λ (ks : List Entry). EachAfter KeepsGood ins (numbered next (λ id. id) (ks ++ s.last ∷ [])))
      (sym same_kept)
      (sound_from s.last p.rest next (λ id. id) ins ins p.good p.no_input (adds_from s.last s.found) start) in
      let open_end : has_ended (ins ++ added) ≡ false =
      list_any-append is_end ins added
      ∙ ap₂ (λ a b. a || b) (inputs_open ins (filter_inputs es)) (numbered_open stays next (λ id. id)) in
      let empty : adds_empty (added ++ End ∷ []) ≡ true =
      list_any-append is_refutation added (End ∷ [])
      ∙ ap (λ b. b || false) (numbered_empty (kept s.last s.before) s.last next (λ id. id) s.found) in (
        each_both KeepsGood [] ins (added ++ End ∷ []) p.inputs_good
            (each_both KeepsGood ins added (End ∷ []) sound ((open_end, tt), tt)),
        list_any-append is_refutation ins (added ++ End ∷ [])
            ∙ ap (λ b. adds_empty ins || b) empty ∙ or_true (adds_empty ins),
      )
    where
      or_true : (b : Bool) → (b || true) ≡ true
      or_true true = refl
      or_true false = refl

  pub whole_trimmed : IsTrimmed es (trimmed_of es s.before s.last)
  whole_trimmed =
      let p = parted es s good f in
      let ins = input_entries es in
      let next = length ins + 1 in
      let stays = kept s.last s.before ++ s.last ∷ [] in
      let name = names_after next (λ id. id) stays in
      let adds = adds_from s.last s.found in
      let fresh = subst (λ (ks : List Entry). AreFresh (ks ++ s.last ∷ [])) (sym same_kept)
      (kept_fresh s.last adds p.rest ins p.good) in
      let is : numbered next (λ id. id) stays ≡ map (renamed name) stays = named_once stays next (λ id. id) fresh in
      let new : (id : ℕ) → is_given ins id ≡ true → is_given stays id ≡ false =
      λ id given. ap (λ ks. is_given (ks ++ s.last ∷ []) id) same_kept ∙ later_new s.last adds p.rest ins p.good id given in
      record {
        name = name;
        front = kept s.last s.before;
        last = s.last;
        some = subst (λ (xs : List Entry). IsSublist stays xs) (ap addition_entries (sym s.is))
            (kept_some s.last s.after adds s.before);
        parts = ap (λ xs. ins ++ (xs ++ End ∷ [])) is;
        same_inputs = same_inputs name ins (filter_inputs es)
            (λ id given. name_stays stays next (λ n. n) id (new id given));
        numbered = numbers_both ins (numbered next (λ id. id) stays ++ End ∷ []) 1 (filter_inputs es) f.numbered
            (numbers_go_on stays next (λ id. id));
        empty = s.found;
        no_other = kept_nonempty s.last s.before s.first;
        used = kept_are_used name s.last s.before;
      }

-- what is made at the first empty clause has what the list of this split has
pub on_split : {E : Type 0} (P : List Entry → Type 0) (es : List Entry) (s : IsSplit es) (at : ℕ)
    (answer : Result (List Entry) E) → position is_refutation es ≡ Some at →
    IfOk answer (λ t. (before : List Entry) → (last : Entry) → (after : List Entry) → es ≡ before ++ last ∷ after →
    length before ≡ at → t ≡ trimmed_of es before last) → P (trimmed_of es s.before s.last) → IfOk answer P
on_split P es s at (Ok t) place made p =
    let same : Some (length s.before) ≡ Some at = sym (split_place es s) ∙ place in
    let is : length s.before ≡ at = cc in
    subst P (sym (made s.before s.last s.after s.is is)) p
on_split P es s at (Err bad) place made p = tt
