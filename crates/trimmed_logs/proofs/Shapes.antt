-- The trimmed list is the trimmed form of the given one.
use Rattle.std.proofs.Common.{◌≡◌, ◌∙◌, refl, ap, ap₂, sym, subst, arith, ℕ, ◌+◌, ◌==◌, Bool, true, false, ◌||◌, cond}
use Rattle.std.proofs.Common.{List, [], ◌∷◌, ◌++◌, map, length, Option, Some, None, is_some, inl, inr}
use Rattle.std.specs.Prelude.{⊤}
use Rattle.std.specs.Option.{option_or}
use Rattle.std.specs.List.{list_any, list_all}
use Rattle.std.proofs.lemmas.Bool.{cases_Bool, false_from_ne_true, or_cases, or_parts, or_right, eqb-true, true≢false, false≢true}
use Rattle.resolution_check.specs.declared.log.Clause.{Clause}
use Rattle.resolution_check.specs.declared.log.Entry.{Entry}
use Rattle.resolution_check.specs.declared.log.Entry.TheVariants.{Input, Add, Delete, End}
use Rattle.resolution_check.specs.Entries.{EachAfter, IsSound, KeepsGood, adds_empty, clause_by, clause_given}
use Rattle.resolution_check.specs.Entries.{is_given, is_refutation}
use Rattle.resolution_check.proofs.Goods.{clause_given-push, given-kept, given_from_held}
use Rattle.trimmed_logs.specs.Trimmed.{AreUsed, IsNumberedFrom, IsSublist, none, with_first, without_first}
use Rattle.trimmed_logs.specs.Trimmed.{addition_entries, is_addition, is_input, is_used_by, renamed, uses}
use Rattle.trimmed_logs.specs.Kept.{kept, numbered, with_name}
use Rattle.trimmed_logs.proofs.Chains.{is_among, resolved_held, among_first, among_later}
use Rattle.trimmed_logs.proofs.Keeping.{kept-used, kept-unused, kept-none}
use Rattle.trimmed_logs.proofs.Naming.{numbered-add, numbered-none}

-- ---- what stays is some of the additions

pub none_of : (es : List Entry) → IsSublist [] es
none_of [] = none
none_of (e ∷ es) = without_first (none_of es)

module _ (last : Entry) (after : List Entry) (adds : is_addition last ≡ true) where
  pub kept_some : (es : List Entry) → IsSublist (kept last es ++ last ∷ []) (addition_entries (es ++ last ∷ after))
  kept_some [] =
      let all : addition_entries (last ∷ after) ≡ last ∷ addition_entries after =
      ap (λ b. cond b (last ∷ addition_entries after) (addition_entries after)) adds in
      let S : List Entry → List Entry → Type 0 = λ ks es. IsSublist (ks ++ last ∷ []) es in
      subst (λ (es : List Entry). S (kept last []) es) (sym all)
      (subst (λ (ks : List Entry). S ks (last ∷ addition_entries after)) (sym (kept-none last))
      (with_first (none_of (addition_entries after))))
  kept_some (Input id clause ∷ es) =
      subst (λ (ks : List Entry). IsSublist (ks ++ last ∷ []) (addition_entries (es ++ last ∷ after)))
      (sym (kept-unused last (Input id clause) es refl)) (kept_some es)
  kept_some (Add id clause chain ∷ es) = elim (cases_Bool (is_used_by (kept last es ++ last ∷ []) (Add id clause chain))) [
    | inl used ↦
        subst (λ (ks : List Entry). IsSublist (ks ++ last ∷ [])
        (Add id clause chain ∷ addition_entries (es ++ last ∷ after)))
        (sym (kept-used last (Add id clause chain) es used)) (with_first (kept_some es))
    | inr unused ↦
        subst (λ (ks : List Entry). IsSublist (ks ++ last ∷ [])
        (Add id clause chain ∷ addition_entries (es ++ last ∷ after)))
        (sym (kept-unused last (Add id clause chain) es unused)) (without_first (kept_some es))
  ]
  kept_some (Delete id ∷ es) =
      subst (λ (ks : List Entry). IsSublist (ks ++ last ∷ []) (addition_entries (es ++ last ∷ after)))
      (sym (kept-unused last (Delete id) es refl)) (kept_some es)
  kept_some (End ∷ es) =
      subst (λ (ks : List Entry). IsSublist (ks ++ last ∷ []) (addition_entries (es ++ last ∷ after)))
      (sym (kept-unused last End es refl)) (kept_some es)

-- a step to one entry more: it is used, or it does not stay
pub kept_step : (P : List Entry → List Entry → Type 0) (last e : Entry) (es : List Entry) →
    (is_used_by (kept last es ++ last ∷ []) e ≡ true → P (e ∷ es) (e ∷ kept last es)) →
    P (e ∷ es) (kept last es) → P (e ∷ es) (kept last (e ∷ es))
kept_step P last e es used unused = elim (cases_Bool (is_used_by (kept last es ++ last ∷ []) e)) [
  | inl h ↦ subst (λ (ks : List Entry). P (e ∷ es) ks) (sym (kept-used last e es h)) (used h)
  | inr h ↦ subst (λ (ks : List Entry). P (e ∷ es) ks) (sym (kept-unused last e es h)) unused
]

-- where nothing is empty before, nothing that stays is
pub kept_nonempty : (last : Entry) (es : List Entry) → adds_empty es ≡ false → adds_empty (kept last es) ≡ false
kept_nonempty last [] h = ap adds_empty (kept-none last)
kept_nonempty last (e ∷ es) h =
    let parts = or_parts (is_refutation e) (adds_empty es) h in
    kept_step (λ all ks. adds_empty ks ≡ false) last e es
    (λ used. ap₂ (λ a b. a || b) parts.0 (kept_nonempty last es parts.1)) (kept_nonempty last es parts.1)

-- no input stays as an addition
pub kept_inputs : (last : Entry) (xs es : List Entry) → list_all is_input xs ≡ true →
    kept last (xs ++ es) ≡ kept last es
kept_inputs last [] es h = refl
kept_inputs last (Input id clause ∷ xs) es h =
    kept-unused last (Input id clause) (xs ++ es) refl ∙ kept_inputs last xs es h
kept_inputs last (Add id clause chain ∷ xs) es h = absurd (false≢true h)
kept_inputs last (Delete id ∷ xs) es h = absurd (false≢true h)
kept_inputs last (End ∷ xs) es h = absurd (false≢true h)

-- ---- each that stays is used by a later one that stays

pub uses_renamed : (name : ℕ → ℕ) (id : ℕ) (e : Entry) → uses id e ≡ true → uses (name id) (renamed name e) ≡ true
uses_renamed name id (Input own clause) h = absurd (false≢true h)
uses_renamed name id (Add own clause chain) h = in_chain chain h
  where
    in_chain : (ids : List ℕ) → is_among ids id ≡ true → is_among (map name ids) (name id) ≡ true
    in_chain [] k = absurd (false≢true k)
    in_chain (first ∷ ids) k = elim (or_cases _ _ k) [
      | inl here ↦
          subst (λ (n : ℕ). is_among (name n ∷ map name ids) (name id) ≡ true) (sym (eqb-true first id here))
          (among_first (name id) (map name ids))
      | inr rest ↦ among_later (name first) (map name ids) (name id) (in_chain ids rest)
    ]
uses_renamed name id (Delete own) h = absurd (false≢true h)
uses_renamed name id End h = absurd (false≢true h)

any_uses : (name : ℕ → ℕ) (id : ℕ) (es : List Entry) (last : Entry) → list_any (uses id) (es ++ last ∷ []) ≡ true →
    list_any (uses (name id)) (map (renamed name) es ++ renamed name last ∷ []) ≡ true
any_uses name id [] last h = elim (or_cases _ _ h) [
  | inl here ↦ ap (λ b. b || false) (uses_renamed name id last here)
  | inr rest ↦ absurd (false≢true rest)
]
any_uses name id (e ∷ es) last h = elim (or_cases _ _ h) [
  | inl here ↦ ap (λ b. b || list_any (uses (name id)) (map (renamed name) es ++ renamed name last ∷ []))
      (uses_renamed name id e here)
  | inr rest ↦ or_right (uses (name id) (renamed name e)) _ (any_uses name id es last rest)
]

used_renamed : (name : ℕ → ℕ) (e : Entry) (es : List Entry) (last : Entry) → is_used_by (es ++ last ∷ []) e ≡ true →
    is_used_by (map (renamed name) es ++ renamed name last ∷ []) (renamed name e) ≡ true
used_renamed name (Input id clause) es last h = absurd (false≢true h)
used_renamed name (Add id clause chain) es last h = any_uses name id es last h
used_renamed name (Delete id) es last h = absurd (false≢true h)
used_renamed name End es last h = absurd (false≢true h)

pub kept_are_used : (name : ℕ → ℕ) (last : Entry) (es : List Entry) →
    AreUsed (map (renamed name) (kept last es)) (renamed name last)
kept_are_used name last [] =
    subst (λ (ks : List Entry). AreUsed (map (renamed name) ks) (renamed name last)) (sym (kept-none last)) tt
kept_are_used name last (e ∷ es) =
    kept_step (λ all ks. AreUsed (map (renamed name) ks) (renamed name last)) last e es
    (λ used. (used_renamed name e (kept last es) last used, kept_are_used name last es)) (kept_are_used name last es)

-- ---- one name for each number

-- the names after all of these
abbrev pub names_after : ℕ → (ℕ → ℕ) → List Entry → ℕ → ℕ
names_after next names [] = names
names_after next names (Input id clause ∷ es) = names_after next names es
names_after next names (Add id clause chain ∷ es) = names_after (next + 1) (with_name names id next) es
names_after next names (Delete id ∷ es) = names_after next names es
names_after next names (End ∷ es) = names_after next names es

-- each of these is an addition, whose number no later one has, and of whose chain neither it nor a later one gives a number
abbrev pub AreFresh : List Entry → Type 0
AreFresh [] = ⊤
AreFresh (Input id clause ∷ es) = ⊥
AreFresh (Add id clause chain ∷ es) =
    (is_given es id ≡ false) × ((n : ℕ) → is_among chain n ≡ true → is_given (Add id clause chain ∷ es) n ≡ false)
    × AreFresh es
AreFresh (Delete id ∷ es) = ⊥
AreFresh (End ∷ es) = ⊥

-- by whether the first gives it
given_parts : (e : Entry) (es : List Entry) (id : ℕ) → is_given (e ∷ es) id ≡ false →
    (is_some (clause_by id e) ≡ false) × (is_given es id ≡ false)
given_parts e es id h = split (clause_by id e) h
  where
    split : (o : Option Clause) → is_some (option_or o (clause_given es id)) ≡ false →
        (is_some o ≡ false) × (is_given es id ≡ false)
    split None k = (refl, k)
    split (Some c) k = absurd (true≢false k)

by_own : (own id : ℕ) (clause : Clause) → is_some (cond (own == id) (Some clause) None) ≡ false → (own == id) ≡ false
by_own own id clause h = split (own == id) h
  where
    split : (b : Bool) → is_some (cond b (Some clause) None) ≡ false → b ≡ false
    split true k = absurd (true≢false k)
    split false k = refl

-- a number that none of them gives keeps its name
pub name_stays : (es : List Entry) (next : ℕ) (names : ℕ → ℕ) (id : ℕ) → is_given es id ≡ false →
    names_after next names es id ≡ names id
name_stays [] next names id h = refl
name_stays (Input own clause ∷ es) next names id h =
    name_stays es next names id (given_parts (Input own clause) es id h).1
name_stays (Add own clause chain ∷ es) next names id h =
    let parts = given_parts (Add own clause chain) es id h in
    name_stays es (next + 1) (with_name names own next) id parts.1
    ∙ ap (λ b. cond b next (names id)) (by_own own id clause parts.0)
name_stays (Delete own ∷ es) next names id h = name_stays es next names id (given_parts (Delete own) es id h).1
name_stays (End ∷ es) next names id h = name_stays es next names id (given_parts End es id h).1

map_same : (f g : ℕ → ℕ) (ids : List ℕ) → ((n : ℕ) → is_among ids n ≡ true → f n ≡ g n) → map f ids ≡ map g ids
map_same f g [] h = refl
map_same f g (id ∷ ids) h =
    ap₂ (λ x xs. x ∷ xs) (h id (among_first id ids))
    (map_same f g ids (λ n k. h n (among_later id ids n k)))

-- the names may be those after all
pub named_once : (es : List Entry) (next : ℕ) (names : ℕ → ℕ) → AreFresh es →
    numbered next names es ≡ map (renamed (names_after next names es)) es
named_once [] next names fresh = numbered-none next names
named_once (Input id clause ∷ es) next names fresh = absurd fresh
named_once (Add id clause chain ∷ es) next names fresh =
    let more = with_name names id next in
    let name = names_after (next + 1) more es in
    let own : name id ≡ next =
    name_stays es (next + 1) more id fresh.0 ∙ ap (λ b. cond b next (names id)) (same_self id) in
    let others : map names chain ≡ map name chain =
    map_same names name chain (λ n among.
    sym (name_stays (Add id clause chain ∷ es) next names n (fresh.1 n among))) in
    numbered-add next names id clause chain es
    ∙ ap₂ (λ k ids. Add k clause ids ∷ numbered (next + 1) more es) (sym own) others
    ∙ ap (λ xs. Add (name id) clause (map name chain) ∷ xs) (named_once es (next + 1) more fresh.2)
  where
    same_self : (n : ℕ) → (n == n) ≡ true
    same_self n = grind arith
named_once (Delete id ∷ es) next names fresh = absurd fresh
named_once (End ∷ es) next names fresh = absurd fresh

-- ---- the numbers of a good list are new

given_own : (done : List Entry) (id : ℕ) (clause : Clause) (chain : List ℕ) →
    is_given (done ++ Add id clause chain ∷ []) id ≡ true
given_own done id clause chain =
    ap is_some (clause_given-push done (Add id clause chain) id)
    ∙ ap (λ b. is_some (option_or (clause_given done id) (cond b (Some clause) None))) (same_self id)
    ∙ some_or (clause_given done id)
  where
    same_self : (n : ℕ) → (n == n) ≡ true
    same_self n = grind arith

    some_or : (o : Option Clause) → is_some (option_or o (Some clause)) ≡ true
    some_or (Some c) = refl
    some_or None = refl

-- a sound addition gives no number that was given
other_number : (done : List Entry) (id : ℕ) (clause : Clause) (chain : List ℕ) (n : ℕ) →
    is_given done id ≡ false → is_given done n ≡ true → (id == n) ≡ false
other_number done id clause chain n new given =
    false_from_ne_true (id == n)
    (λ same. true≢false (sym given ∙ ap (is_given done) (sym (eqb-true id n same)) ∙ new))

not_first : (done es : List Entry) (id : ℕ) (clause : Clause) (chain : List ℕ) (n : ℕ) → is_given done id ≡ false →
    is_given done n ≡ true → is_given es n ≡ false → is_given (Add id clause chain ∷ es) n ≡ false
not_first done es id clause chain n new given later =
    ap (λ b. is_some (option_or (cond b (Some clause) None) (clause_given es n)))
    (other_number done id clause chain n new given) ∙ later

module _ (last : Entry) (adds : is_addition last ≡ true) where
  last_new : (done : List Entry) (l : Entry) → is_addition l ≡ true → IsSound done l → (n : ℕ) →
      is_given done n ≡ true → is_given (l ∷ []) n ≡ false
  last_new done (Input id clause) is sound n given = absurd (false≢true is)
  last_new done (Add id clause chain) is sound n given = not_first done [] id clause chain n sound.0 given refl
  last_new done (Delete id) is sound n given = absurd (false≢true is)
  last_new done End is sound n given = absurd (false≢true is)

  first_new : (done es : List Entry) (e : Entry) → is_used_by (kept last es ++ last ∷ []) e ≡ true →
      IsSound done e → (n : ℕ) → is_given done n ≡ true → is_given (kept last es ++ last ∷ []) n ≡ false →
      is_given (e ∷ (kept last es ++ last ∷ [])) n ≡ false
  first_new done es (Input id clause) used sound n given later = absurd (false≢true used)
  first_new done es (Add id clause chain) used sound n given later =
      not_first done (kept last es ++ last ∷ []) id clause chain n sound.0 given later
  first_new done es (Delete id) used sound n given later = absurd (false≢true used)
  first_new done es End used sound n given later = absurd (false≢true used)

  -- what stays gives no number that was given before
  pub later_new : (es done : List Entry) → EachAfter KeepsGood done (es ++ last ∷ []) → (n : ℕ) →
      is_given done n ≡ true → is_given (kept last es ++ last ∷ []) n ≡ false
  later_new [] done good n given =
      ap (λ ks. is_given (ks ++ last ∷ []) n) (kept-none last) ∙ last_new done last adds good.0.1 n given
  later_new (e ∷ es) done good n given =
      let rest : is_given (kept last es ++ last ∷ []) n ≡ false =
      later_new es (done ++ e ∷ []) good.1 n (given-kept done e n given) in
      kept_step (λ all ks. is_given (ks ++ last ∷ []) n ≡ false) last e es
      (λ used. first_new done es e used good.0.1 n given rest) rest

  last_fresh : (done : List Entry) (l : Entry) → is_addition l ≡ true → IsSound done l → AreFresh (l ∷ [])
  last_fresh done (Input id clause) is sound = absurd (false≢true is)
  last_fresh done (Add id clause chain) is sound = (
    refl,
    (λ n among. not_first done [] id clause chain n sound.0
        (given_from_held done n (resolved_held _ chain sound.1 sound.2 n among)) refl),
    tt,
  )
  last_fresh done (Delete id) is sound = absurd (false≢true is)
  last_fresh done End is sound = absurd (false≢true is)

  first_fresh : (done es : List Entry) (e : Entry) → is_used_by (kept last es ++ last ∷ []) e ≡ true →
      IsSound done e → EachAfter KeepsGood (done ++ e ∷ []) (es ++ last ∷ []) →
      AreFresh (kept last es ++ last ∷ []) → AreFresh (e ∷ (kept last es ++ last ∷ []))
  first_fresh done es (Input id clause) used sound good fresh = absurd (false≢true used)
  first_fresh done es (Add id clause chain) used sound good fresh = (
    later_new es (done ++ Add id clause chain ∷ []) good id (given_own done id clause chain),
    (λ n among.
        let given : is_given done n ≡ true =
        given_from_held done n (resolved_held _ chain sound.1 sound.2 n among) in
        not_first done (kept last es ++ last ∷ []) id clause chain n sound.0 given
        (later_new es (done ++ Add id clause chain ∷ []) good n (given-kept done (Add id clause chain) n given))),
    fresh,
  )
  first_fresh done es (Delete id) used sound good fresh = absurd (false≢true used)
  first_fresh done es End used sound good fresh = absurd (false≢true used)

  pub kept_fresh : (es done : List Entry) → EachAfter KeepsGood done (es ++ last ∷ []) →
      AreFresh (kept last es ++ last ∷ [])
  kept_fresh [] done good =
      subst (λ (ks : List Entry). AreFresh (ks ++ last ∷ [])) (sym (kept-none last)) (last_fresh done last adds good.0.1)
  kept_fresh (e ∷ es) done good =
      let rest : AreFresh (kept last es ++ last ∷ []) = kept_fresh es (done ++ e ∷ []) good.1 in
      kept_step (λ all ks. AreFresh (ks ++ last ∷ [])) last e es
      (λ used. first_fresh done es e used good.0.1 good.1 rest) rest

-- inputs whose numbers keep their names stay as they are
pub same_inputs : (name : ℕ → ℕ) (xs : List Entry) → list_all is_input xs ≡ true →
    ((n : ℕ) → is_given xs n ≡ true → name n ≡ n) → map (renamed name) xs ≡ xs
same_inputs name [] all h = refl
same_inputs name (Input id clause ∷ xs) all h =
    ap₂ (λ n es. Input n clause ∷ es)
    (h id (ap (λ b. is_some (option_or (cond b (Some clause) None) (clause_given xs id))) (same_self id)))
    (same_inputs name xs all (λ n k. h n (later n k)))
  where
    same_self : (n : ℕ) → (n == n) ≡ true
    same_self n = grind arith

    later : (n : ℕ) → is_given xs n ≡ true → is_given (Input id clause ∷ xs) n ≡ true
    later n k = split (id == n)
      where
        split : (b : Bool) → is_some (option_or (cond b (Some clause) None) (clause_given xs n)) ≡ true
        split true = refl
        split false = k
same_inputs name (Add id clause chain ∷ xs) all h = absurd (false≢true all)
same_inputs name (Delete id ∷ xs) all h = absurd (false≢true all)
same_inputs name (End ∷ xs) all h = absurd (false≢true all)

-- ---- numbers go on upwards

pub numbers_go_on : (es : List Entry) (next : ℕ) (names : ℕ → ℕ) → IsNumberedFrom next (numbered next names es ++ End ∷ [])
unfolding numbered
numbers_go_on [] next names =
    subst (λ (xs : List Entry). IsNumberedFrom next (xs ++ End ∷ [])) (sym (numbered-none next names)) tt
numbers_go_on (Input id clause ∷ es) next names = numbers_go_on es next names
numbers_go_on (Add id clause chain ∷ es) next names =
    subst (λ (xs : List Entry). IsNumberedFrom next (xs ++ End ∷ [])) (sym (numbered-add next names id clause chain es))
    (refl, numbers_go_on es (next + 1) (with_name names id next))
numbers_go_on (Delete id ∷ es) next names = numbers_go_on es next names
numbers_go_on (End ∷ es) next names = numbers_go_on es next names

pub numbers_both : (xs ys : List Entry) (next : ℕ) → list_all is_input xs ≡ true → IsNumberedFrom next xs →
    IsNumberedFrom (length xs + next) ys → IsNumberedFrom next (xs ++ ys)
numbers_both [] ys next all h k =
    subst (λ (n : ℕ). IsNumberedFrom n ys) (omega arith) k
numbers_both (Input id clause ∷ xs) ys next all h k =
    let place : length (Input id clause ∷ xs) + next ≡ length xs + (next + 1) = omega arith in
    (h.0, numbers_both xs ys (next + 1) all h.1 (subst (λ (n : ℕ). IsNumberedFrom n ys) place k))
numbers_both (Add id clause chain ∷ xs) ys next all h k = absurd (false≢true all)
numbers_both (Delete id ∷ xs) ys next all h k = absurd (false≢true all)
numbers_both (End ∷ xs) ys next all h k = absurd (false≢true all)
