-- What a section holds after some of its lines.
use Rattle.std.proofs.Common.{◌≡◌, ◌≢◌, ◌<◌, ◌≤◌, ◌∙◌, refl, ap, sym, subst, arith, ℕ, ◌+◌, ◌-◌, Bool, true, false}
use Rattle.std.proofs.Common.{◌||◌, List, [], ◌∷◌, ◌++◌, length, drop, inr, Option, Some, None, append_assoc}
use Rattle.std.specs.Prelude.{IfSome}
use Rattle.std.specs.List.{onto_first, AllByRecursion}
use Rattle.std.proofs.lemmas.List.{append-nil, length-append}
use Rattle.std.proofs.lemmas.List.Splits.{slice_split-cons_no, slice_split-cons_yes}
use Rattle.std.proofs.Math.Seq.{drop-append-add, drop-append_seam}
use Rattle.std.specs.Bool.{Decides}
use Rattle.std.specs.Cmp.Lexicographic.{pointwise}
use Rattle.std.proofs.lemmas.Slice.Eq.{slice_eq-Decides}
use Rattle.resolution_check.specs.Clauses.{is_same}
use Rattle.resolution_check.specs.declared.log.Lit.{Lit}
use Rattle.resolution_check.proofs.Literals.{same_lit, same_refl}
use Rattle.resolution_check.specs.declared.log.Clause.{Clause}
use Rattle.resolution_check.specs.declared.log.Entry.{Entry}
use Rattle.resolution_check.specs.declared.log.Entry.TheVariants.{End}
use Rattle.resolution_check.specs.Entries.{is_end}
use Rattle.resolution_check.specs.Known.{HasRead, Known}
use Rattle.resolution_check.specs.Text.{HasText, is_line_feed, line_of, log_text, text_of}
use Rattle.resolution_check.proofs.Goods.{any-push}
use Rattle.resolution_check.proofs.LogLines.{lines-log_text, text-push}
use Rattle.log_checker.specs.declared.cause.Cause.{Cause}
use Rattle.log_checker.specs.declared.cause.Cause.TheVariants.{BadLine, InputDiffers, Refused, NotRefuted, Missing}
use Rattle.log_checker.specs.declared.entries.Step.TheVariants.{Goes, Ends, Wrong}
use Rattle.log_checker.specs.Entries.{TakesLine}
use Rattle.log_checker.specs.Lines.{pieces}
use Rattle.log_checker.specs.Sections.{IsEndedBefore, IsInputOf, IsOpen, IsShownBefore, IsUnopened}
use Rattle.log_checker.specs.Sections.{IsWrong, IsWrongAfter, IsWrongWithin, opening_text, unended_cause}

-- ---- the first line of bytes that begin with an entry's

under_first : (x : ℕ) (xs : List ℕ) (parts : List (List ℕ)) → onto_first x parts ≡ (x ∷ xs) ∷ [] ∷ [] →
    parts ≡ xs ∷ [] ∷ []
under_first x xs [] e =
    let short : length ((x ∷ []) ∷ []) ≡ length ((x ∷ xs) ∷ ([] ∷ [])) = ap length e in absurd (omega (arith, short))
under_first x xs (part ∷ parts) e = cc

first_by : (x : ℕ) (xs ys : List ℕ) (b : Bool) → is_line_feed x ≡ b →
    (pieces (xs ++ 10 ∷ []) ≡ xs ∷ [] ∷ [] → pieces (xs ++ 10 ∷ ys) ≡ xs ∷ pieces ys) →
    pieces ((x ∷ xs) ++ 10 ∷ []) ≡ (x ∷ xs) ∷ [] ∷ [] → pieces ((x ∷ xs) ++ 10 ∷ ys) ≡ (x ∷ xs) ∷ pieces ys
first_by x xs ys true e next h =
    let bad : [] ∷ pieces (xs ++ 10 ∷ []) ≡ (x ∷ xs) ∷ [] ∷ [] =
    sym (slice_split-cons_yes is_line_feed x (xs ++ 10 ∷ []) e) ∙ h in
    let none : [] ≡ x ∷ xs = cc in
    let long : 0 ≡ length (x ∷ xs) = ap length none in absurd (omega (arith, long))
first_by x xs ys false e next h =
    let inner : onto_first x (pieces (xs ++ 10 ∷ [])) ≡ (x ∷ xs) ∷ [] ∷ [] =
    sym (slice_split-cons_no is_line_feed x (xs ++ 10 ∷ []) e) ∙ h in
    slice_split-cons_no is_line_feed x (xs ++ 10 ∷ ys) e
    ∙ ap (onto_first x) (next (under_first x xs (pieces (xs ++ 10 ∷ [])) inner))

first_of : (xs ys : List ℕ) → pieces (xs ++ 10 ∷ []) ≡ xs ∷ [] ∷ [] → pieces (xs ++ 10 ∷ ys) ≡ xs ∷ pieces ys
first_of [] ys h = refl
first_of (x ∷ xs) ys h = first_by x xs ys (is_line_feed x) refl (λ k. first_of xs ys k) h

line_then : (e : Entry) (more : List ℕ) → line_of e ++ more ≡ text_of e ++ 10 ∷ more
line_then e more = append_assoc (text_of e) (10 ∷ []) more

pub pieces_entry : (e : Entry) (more : List ℕ) → HasText e → pieces (line_of e ++ more) ≡ text_of e ∷ pieces more
pieces_entry e more h =
    let alone : pieces (text_of e ++ 10 ∷ []) ≡ text_of e ∷ [] ∷ [] =
    ap pieces (sym (append-nil (line_of e))) ∙ lines-log_text (e ∷ []) (h, tt) in
    ap pieces (line_then e more) ∙ first_of (text_of e) more alone

-- ---- bytes that begin with no entry's line

no_entry : (rest line more : List ℕ) → pieces rest ≡ line ∷ pieces more →
    ((e : Entry) → HasText e → line ≢ text_of e) → (e : Entry) (after : List ℕ) → HasText e → rest ≢ line_of e ++ after
no_entry rest line more cut none e after h is =
    let same : line ∷ pieces more ≡ text_of e ∷ pieces after = sym cut ∙ ap pieces is ∙ pieces_entry e after h in
    none e h (cc)

no_unended : (rest : List ℕ) → pieces rest ≡ rest ∷ [] → (e : Entry) (after : List ℕ) → HasText e →
    rest ≢ line_of e ++ after
no_unended rest cut e after h is =
    let same : rest ∷ [] ≡ text_of e ∷ pieces after = sym cut ∙ ap pieces is ∙ pieces_entry e after h in
    let whole : rest ≡ text_of e = cc in
    let long : length (text_of e) ≡ length (text_of e ++ 10 ∷ after) = ap length (sym whole ∙ is ∙ line_then e after) in
    let more : length (text_of e ++ 10 ∷ after) ≡ length (text_of e) + length (10 ∷ after) =
    length-append (text_of e) (10 ∷ after) in
    absurd (omega (arith, long, more))

-- ---- what a section holds after some of its lines

-- after so many lines these bytes are left, and the checker has read the entries of the others
pub record Front (clauses : List Clause) (known : Known) (bytes rest : List ℕ) (lines : ℕ) : Type 0 where
  pub entries : List Entry
  pub read : HasRead known entries
  pub front : IsOpen clauses entries
  pub text : bytes ≡ log_text entries ++ rest
  pub count : lines ≡ length entries
  pub room : lines + length rest ≤ length bytes

pub front_start : (clauses : List Clause) (known : Known) (bytes : List ℕ) → HasRead known [] →
    Front clauses known bytes bytes 0
front_start clauses known bytes read = record {
  entries = [];
  read = read;
  front = record { good = read.good; goes_on = refl; texts = tt; inputs = tt };
  text = refl;
  count = refl;
  room = omega arith;
}

pub all-push : {X : Type 0} (P : X → Type 0) (xs : List X) (x : X) → AllByRecursion P xs → P x →
    AllByRecursion P (xs ++ x ∷ [])
all-push P [] x all one = (one, tt)
all-push P (y ∷ ys) x all one = (all.0, all-push P ys x all.1 one)

module _ (clauses : List Clause) (old new : Known) (bytes rest line more : List ℕ) (lines : ℕ)
    (f : Front clauses old bytes rest lines) (cut : rest ≡ line ++ 10 ∷ more) where
  after_line : (e : Entry) → line ≡ text_of e → rest ≡ line_of e ++ more
  after_line e is = cut ∙ ap (λ t. t ++ 10 ∷ more) is ∙ sym (line_then e more)

  text_more : (e : Entry) → line ≡ text_of e → bytes ≡ log_text (f.entries ++ e ∷ []) ++ more
  text_more e is =
      f.text ∙ ap (λ t. log_text f.entries ++ t) (after_line e is)
      ∙ sym (append_assoc (log_text f.entries) (line_of e) more)
      ∙ ap (λ t. t ++ more) (sym (text-push f.entries e))

  shorter : length more < length rest
  shorter =
      let long : length rest ≡ length line + length (10 ∷ more) = ap length cut ∙ length-append line (10 ∷ more) in
      omega (arith, long)

  -- one entry more
  pub front_more : TakesLine clauses old new line Goes → Front clauses new bytes more (lines + 1)
  front_more (e, has_text, is, goes_on, input, reads) =
      let long : length (f.entries ++ e ∷ []) ≡ length f.entries + 1 = length-append f.entries (e ∷ []) in
      let read : HasRead new (f.entries ++ e ∷ []) = reads f.entries f.read in
      let less = shorter in
      let room = f.room in
      let count = f.count in record {
        entries = f.entries ++ e ∷ [];
        read = read;
        front = record {
          good = read.good;
          goes_on = any-push is_end f.entries e ∙ ap (λ b. b || is_end e) f.front.goes_on ∙ goes_on;
          texts = all-push HasText f.entries e f.front.texts has_text;
          inputs = all-push (IsInputOf clauses) f.entries e f.front.inputs input;
        };
        text = text_more e is;
        count = omega (arith, count, long);
        room = omega (arith, room, less);
      }

  -- the end
  pub front_ends : TakesLine clauses old new line Ends → IsEndedBefore clauses bytes (lines + 1) more
  front_ends (is, empty) =
      let count = f.count in (
        f.entries,
        record { front = f.front; empty = empty f.entries f.read },
        omega (arith, count),
        text_more End is,
      )

  -- a wrong line
  pub front_wrong : (cause : Cause) → pieces rest ≡ line ∷ pieces more → TakesLine clauses old new line (Wrong cause) →
      IsWrongWithin clauses bytes lines cause
  front_wrong cause piece takes = (f.entries, rest, f.front, f.count, f.text, by_cause cause takes) where
    not_empty : rest ≢ []
    not_empty none = let less = shorter in let long : length rest ≡ 0 = ap length none in absurd (omega (arith, less, long))

    by_cause : (c : Cause) → TakesLine clauses old new line (Wrong c) → IsWrong clauses f.entries rest c
    by_cause BadLine none = (not_empty, no_entry rest line more piece none)
    by_cause (InputDiffers wanted) (e, has_text, is, (id, clause, input, same, other)) =
        let T : Entry → Type 0 = HasText in
        let L : Entry → Type 0 = λ x. rest ≡ line_of x ++ more in
        (id, clause, more, subst T input has_text, subst L input (after_line e is), same, other)
    by_cause (Refused bad) (e, has_text, is, goes_on, (input, fault)) =
        (e, more, has_text, after_line e is, goes_on, input, fault f.entries f.read)
    by_cause NotRefuted (is, not_empty_clause) = (more, after_line End is, not_empty_clause f.entries f.read)
    by_cause Missing none = absurd none

-- no line feed comes
pub front_unended : (clauses : List Clause) (known : Known) (bytes rest : List ℕ) (lines : ℕ) →
    Front clauses known bytes rest lines → pieces rest ≡ rest ∷ [] →
    IsWrongWithin clauses bytes lines (unended_cause rest)
front_unended clauses known bytes rest lines f cut =
    (f.entries, rest, f.front, f.count, f.text, by_rest rest refl)
  where
    by_rest : (r : List ℕ) → r ≡ rest → IsWrong clauses f.entries rest (unended_cause r)
    by_rest [] is = sym is
    by_rest (b ∷ bs) is = (
      λ none. let long : length (b ∷ bs) ≡ 0 = ap length (is ∙ none) in absurd (omega (arith, long)),
      no_unended rest cut,
    )

-- ---- where the section is not opened

pub unopened : (name bytes opening : List ℕ) → opening ≡ opening_text name →
    ((more : List ℕ) → bytes ≢ opening ++ more) → IsUnopened name bytes (unended_cause bytes)
unopened name [] opening is other = refl
unopened name (b ∷ bs) opening is other = (
  λ none. let long : length (b ∷ bs) ≡ 0 = ap length none in absurd (omega (arith, long)),
  subst (λ (o : List ℕ). (more : List ℕ) → (b ∷ bs) ≢ o ++ more) is other,
)

-- ---- behind the opening

-- what is left behind a front of bytes
drop_back : (front back whole : List ℕ) → whole ≡ front ++ back → drop (length whole - length back) whole ≡ back
drop_back front back whole is =
    let long : length whole ≡ length front + length back = ap length is ∙ length-append front back in
    let at : length whole - length back ≡ length front = omega (arith, long) in
    ap (λ n. drop n whole) at ∙ ap (drop (length front)) is ∙ drop-append_seam front back

pub front_ended : (clauses : List Clause) (old new : Known) (bytes rest line more : List ℕ) (lines : ℕ)
    (f : Front clauses old bytes rest lines) (cut : rest ≡ line ++ 10 ∷ more) → TakesLine clauses old new line Ends →
    IsEndedBefore clauses bytes (lines + 1) (drop (length bytes - length more) bytes)
front_ended clauses old new bytes rest line more lines f cut takes =
    let ended = front_ends clauses old new bytes rest line more lines f cut takes in
    let R : List ℕ → Type 0 = λ left. IsEndedBefore clauses bytes (lines + 1) left in
    subst R (sym (drop_back (log_text (ended.0 ++ End ∷ [])) more bytes ended.3)) ended

pub opened_shown : (name opening body bytes : List ℕ) (clauses : List Clause) (lines used : ℕ) →
    opening ≡ opening_text name → bytes ≡ opening ++ body → IsEndedBefore clauses body lines (drop used body) →
    IsShownBefore name clauses bytes (lines + 1) (drop (length bytes - length body + used) bytes)
opened_shown name opening body bytes clauses lines used is whole ended =
    let R : List ℕ → Type 0 = λ rest. IsEndedBefore clauses body lines rest in
    let long : length bytes ≡ length opening + length body = ap length whole ∙ length-append opening body in
    let at : length bytes - length body + used ≡ length opening + used = omega (arith, long) in
    let rest : drop (length bytes - length body + used) bytes ≡ drop used body =
    ap (λ n. drop n bytes) at ∙ ap (drop (length opening + used)) whole ∙ drop-append-add opening body used in
    (body, lines, whole ∙ ap (λ o. o ++ body) is, refl, subst R (sym rest) ended)

opened_wrong : (name opening body bytes : List ℕ) (clauses : List Clause) (lines : ℕ) (cause : Cause) →
    opening ≡ opening_text name → bytes ≡ opening ++ body → IsWrongWithin clauses body lines cause →
    IsWrongAfter name clauses bytes (lines + 1) cause
opened_wrong name opening body bytes clauses lines cause is whole wrong =
    inr (body, lines, whole ∙ ap (λ o. o ++ body) is, refl, wrong)

pub some_wrong : (wrong : Option Cause) (name opening body bytes : List ℕ) (clauses : List Clause) (lines : ℕ) →
    opening ≡ opening_text name → bytes ≡ opening ++ body → IfSome wrong (IsWrongWithin clauses body lines) →
    IfSome wrong (IsWrongAfter name clauses bytes (lines + 1))
some_wrong None name opening body bytes clauses lines is whole within = tt
some_wrong (Some cause) name opening body bytes clauses lines is whole within =
    opened_wrong name opening body bytes clauses lines cause is whole within

-- a test of two lists of literals
lits_decide : (a b : Lit) → Decides (is_same a b) (a ≡ b)
lits_decide a b = (λ h. same_lit a b h, λ e. subst (λ (l : Lit). is_same a l ≡ true) e (same_refl a))

pub same_lists : (xs ys : List Lit) (r : Bool) → r ≡ pointwise is_same xs ys → Decides r (xs ≡ ys)
same_lists xs ys r is = slice_eq-Decides lits_decide xs ys r is
