-- Objects whose fields have a text.
use Rattle.std.proofs.Common.{◌≡◌, ℕ, suc, ◌&&◌, Bool, true, false, List, [], ◌∷◌, ◌++◌, map, Option, Some, None, refl}
use Rattle.std.proofs.Common.{sym, subst, ◌∙◌, IsUtf8, append_assoc}
use Rattle.std.proofs.lemmas.Bool.{and_parts, false≢true}
use Rattle.std.specs.Prelude.{⊤, option_map}
use Rattle.std.specs.List.{list_all}
use Rattle.std.specs.Cmp.Lexicographic.{slice_cmp}
use Rattle.std.specs.Ordering.{nat_cmp, match_ordering}
use Rattle.std.specs.declared.cmp.Ordering.{Ordering}
use Rattle.std.specs.declared.cmp.Ordering.TheVariants.{Less, Equal, Greater}
use Rattle.json.proofs.Printed.Utf8.{IsUtf8-are_ascii, are_ascii}
use Rattle.serde_json.specs.Data.{Data, Members, no_members, member, object}
use Rattle.serde_json.specs.View.{items_of}
use Rattle.cex_json.specs.Json.{members_with_from, with_field}
use Rattle.cex_json.proofs.TextBack.{Fits, Follow, IsPast, ItemsFit, MembersFit, joined, joined_none, joined_one}
use Rattle.cex_json.proofs.TextBack.{put_past}

-- ---- names that are ASCII, each behind those before it

abbrev is_behind : List ℕ → List ℕ → Bool
is_behind earlier name = match_ordering (slice_cmp nat_cmp name earlier) false false true

abbrev are_later : List ℕ → List (List ℕ × Option Data) → Bool
are_later name fields = list_all (λ (later : List ℕ × Option Data). is_behind name later.0) fields

abbrev pub are_in_turn : List (List ℕ × Option Data) → Bool
are_in_turn [] = true
are_in_turn (field ∷ rest) =
    are_ascii field.0 && (are_later field.0 rest && are_in_turn rest)

greater : (o : Ordering) → match_ordering o false false true ≡ true → o ≡ Greater
greater Less behind = absurd (false≢true behind)
greater Equal behind = absurd (false≢true behind)
greater Greater behind = refl

-- ---- the last member

past_joined : (name : List ℕ) (ms more : Members) → IsPast name ms → IsPast name more → IsPast name (joined ms more)
past_joined name no_members more before last = last
past_joined name (member k d rest) more before last = (before.0, past_joined name rest more before.1 last)

follow_last : (found ms : Members) (name : List ℕ) (d : Data) → Follow found ms → IsPast name (joined found ms) →
    Follow found (joined ms (member name d no_members))
follow_last found no_members name d follow past = (subst (IsPast name) (joined_none found) past, tt)
follow_last found (member k e rest) name d follow past =
    let next = joined found (member k e no_members) in
    (follow.0, follow_last next rest name d follow.1 (subst (IsPast name) (sym (joined_one found k e rest)) past))

fit_last : (ms : Members) (name : List ℕ) (d : Data) (n : ℕ) → MembersFit ms n → IsUtf8 name → Fits d n →
    MembersFit (joined ms (member name d no_members)) n
fit_last no_members name d n fit utf8 fits = (utf8, fits, tt)
fit_last (member k e rest) name d n fit utf8 fits = (fit.0, fit.1, fit_last rest name d n fit.2 utf8 fits)

-- ---- all fields

abbrev pub OptionFits : Option Data → ℕ → Type 0
OptionFits None n = ⊤
OptionFits (Some d) n = Fits d n

abbrev pub FieldsFit : List (List ℕ × Option Data) → ℕ → Type 0
FieldsFit [] n = ⊤
FieldsFit (field ∷ rest) n = OptionFits field.1 n × FieldsFit rest n

abbrev ArePast : Members → List (List ℕ × Option Data) → Type 0
ArePast ms [] = ⊤
ArePast ms (field ∷ rest) = IsPast field.0 ms × ArePast ms rest

past_none : (fields : List (List ℕ × Option Data)) → ArePast no_members fields
past_none [] = tt
past_none (field ∷ rest) = (tt, past_none rest)

past_last : (ms : Members) (name : List ℕ) (d : Data) (fields : List (List ℕ × Option Data)) → ArePast ms fields →
    are_later name fields ≡ true →
    ArePast (joined ms (member name d no_members)) fields
past_last ms name d [] past behind = tt
past_last ms name d (field ∷ rest) past behind =
    let parts = and_parts (is_behind name field.0)
    (are_later name rest) behind in (
      past_joined field.0 ms (member name d no_members) past.0 (greater (slice_cmp nat_cmp field.0 name) parts.0, tt),
      past_last ms name d rest past.1 parts.1,
    )

-- members that have a text
abbrev pub HaveText : Members → ℕ → Type 0
HaveText ms n = Follow no_members ms × MembersFit ms n

fields_from : (ms : Members) (fields : List (List ℕ × Option Data)) (n : ℕ) → HaveText ms n → ArePast ms fields →
    are_in_turn fields ≡ true → FieldsFit fields n → HaveText (members_with_from ms fields) n
fields_from ms [] n have past turn fit = have
fields_from ms (field ∷ rest) n have past turn fit =
    let parts = and_parts (are_ascii field.0) _ turn in
    let more = and_parts (are_later field.0 rest) (are_in_turn rest) parts.1 in
    by_value field.1 fit.0 (IsUtf8-are_ascii field.0 parts.0) more.0
    (λ next holds behind. fields_from next rest n holds behind more.1 fit.1)
  where
    by_value : (value : Option Data) → OptionFits value n → IsUtf8 field.0 →
        are_later field.0 rest ≡ true →
        ((next : Members) → HaveText next n → ArePast next rest → HaveText (members_with_from next rest) n) →
        HaveText (members_with_from (with_field field.0 value ms) rest) n
    by_value None fits utf8 behind go = go ms have past.1
    by_value (Some d) fits utf8 behind go =
        let last = joined ms (member field.0 d no_members) in
        let P : Members → Type 0 = λ xs. HaveText (members_with_from xs rest) n in
        subst P (sym (put_past field.0 d ms past.0)) (go last
        (follow_last no_members ms field.0 d have.0 past.0, fit_last ms field.0 d n have.1 utf8 fits)
        (past_last ms field.0 d rest past.1 behind))

-- an object of fields with such names, whose values have a text
pub fields_fit : (fields : List (List ℕ × Option Data)) (n : ℕ) → are_in_turn fields ≡ true → FieldsFit fields n →
    Fits (object (members_with_from no_members fields)) (suc n)
fields_fit fields n turn fit = fields_from no_members fields n (tt, tt) (past_none fields) turn fit

-- a list whose members have a text
pub each_fits : {A : Type 0} (write : A → Data) (n : ℕ) (so_far xs : List A) →
    ((before rest : List A) (x : A) → so_far ++ xs ≡ before ++ x ∷ rest → Fits (write x) n) →
    ItemsFit (items_of (map write xs)) n
each_fits write n so_far [] each = tt
each_fits write n so_far (x ∷ xs) each =
    let moved : (so_far ++ x ∷ []) ++ xs ≡ so_far ++ x ∷ xs = append_assoc so_far (x ∷ []) xs in (
      each so_far xs x refl,
      each_fits write n (so_far ++ x ∷ []) xs (λ before rest y is. each before rest y (sym moved ∙ is)),
    )

-- a value that may be absent
pub option_fits : {A : Type 0} (write : A → Data) (n : ℕ) (found : Option A) →
    ((x : A) → found ≡ Some x → Fits (write x) n) → OptionFits (option_map write found) n
option_fits write n None fits = tt
option_fits write n (Some x) fits = fits x refl
