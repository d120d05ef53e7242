-- A log, section by section.
use Rattle.std.proofs.Common.{◌≡◌, ◌≢◌, ◌∙◌, refl, ap, ap₂, sym, subst, arith, ℕ, ◌+◌, ◌-◌, ◌<◌, ◌≤◌, ◌==◌, Bool, true, false, cond}
use Rattle.std.proofs.Common.{List, [], ◌∷◌, ◌++◌, length, length-append, drop, Option, Some, None, Result, Ok, Err, append_assoc}
use Rattle.std.specs.Option.{option_map_or}
use Rattle.std.proofs.lemmas.Bool.{eqb-true}
use Rattle.std.proofs.lemmas.List.{append-nil}
use Rattle.std.proofs.Math.Seq.{drop-append-add}
use Rattle.std.specs.Prelude.{IfOk, IfSome}
use Rattle.log_checker.specs.declared.sections.Checked.{Checked}
use Rattle.mw_text.specs.Reading.{following}
use Rattle.resolution_check.specs.declared.log.Entry.{Entry}
use Rattle.resolution_check.specs.Text.{log_text}
use Rattle.log_checker.specs.declared.cause.Cause.{Cause}
use Rattle.log_checker.specs.declared.cause.Cause.TheVariants.{BadLine, Missing}
use Rattle.log_checker.specs.Lines.{pieces}
use Rattle.log_checker.specs.Sections.{opening_text}
use Rattle.trimmed_logs.specs.Answers.{IsAnswerTo, IsWithin, answer_at_end}
use Rattle.trimmed_logs.specs.declared.answer.Answer.TheVariants.{Trimmed, Wrong}
use Rattle.trimmed_logs.specs.Logs.{Section, at_end, has_none, name_in, read_pieces, sections_in, wrong_next}
use Rattle.trimmed_logs.specs.Steps.{IsAppended, IsSectionBefore, IsWrongBehind, WithinEnds, WithinWrong, between, closed, opened}
use Rattle.trimmed_logs.specs.Texts.{AreTrimmed, IsTrimmedOf}
use Rattle.trimmed_logs.proofs.Within.{read-line, read-tail}

-- ---- a section

-- bytes that no line feed ends, where a section must open
pub unopened_tail : (bytes : List ℕ) → bytes ≢ [] → pieces bytes ≡ bytes ∷ [] → IsWrongBehind bytes 0 BadLine
unopened_tail bytes some cut at sections =
    let same : at + 0 + 1 ≡ at + 1 = omega arith in
    read-tail (between at sections) bytes cut ∙ by_bytes bytes some
    ∙ ap (λ n. Err (record { line = n; cause = BadLine })) (sym same)
  where
    by_bytes : (bs : List ℕ) → bs ≢ [] →
        at_end (between at sections) bs ≡ Err (record { line = at + 1; cause = BadLine })
    by_bytes [] k = absurd (k refl)
    by_bytes (b ∷ bs) k = refl

module _ (bytes line rest : List ℕ) (piece : pieces bytes ≡ line ∷ pieces rest) where
  -- a line that opens no section
  pub unopened_line : name_in line ≡ None → IsWrongBehind bytes 0 BadLine
  unopened_line none at sections =
      let same : at + 0 + 1 ≡ at + 1 = omega arith in
      read-line (between at sections) bytes line rest piece
      ∙ ap (λ o. following (λ next. read_pieces next (pieces rest)) (option_map_or (λ name. Ok (opened (at + 1) sections name []))
      o (wrong_next (between at sections) BadLine))) none
      ∙ ap (λ n. Err (record { line = n; cause = BadLine })) (sym same)

  module _ (name : List ℕ) (named : name_in line ≡ Some name) where
    opens : (at : ℕ) (sections : List Section) → read_pieces (between at sections) (pieces bytes)
        ≡ read_pieces (opened (at + 1) sections name []) (pieces rest)
    opens at sections =
        read-line (between at sections) bytes line rest piece
        ∙ ap (λ o. following (λ next. read_pieces next (pieces rest)) (option_map_or (λ n. Ok (opened (at + 1) sections n []))
        o (wrong_next (between at sections) BadLine))) named

    pub section_wrong : (lines : ℕ) (cause : Cause) → WithinWrong rest lines cause → IsWrongBehind bytes (lines + 1) cause
    section_wrong lines cause within at sections =
        let same : at + 1 + lines + 1 ≡ at + (lines + 1) + 1 = omega arith in
        opens at sections ∙ within (at + 1) sections name
        ∙ ap (λ n. Err (record { line = n; cause = cause })) same

    pub section_ends : (lines used : ℕ) (entries : List Entry) → bytes ≡ line ++ 10 ∷ rest →
        WithinEnds rest (drop used rest) lines entries →
        IsSectionBefore bytes (drop (length bytes - length rest + used) bytes) (lines + 1)
        (record { name = name; entries = entries })
    section_ends lines used entries cut within at sections =
        let same : at + 1 + lines ≡ at + (lines + 1) = omega arith in
        opens at sections ∙ within (at + 1) sections name
        ∙ ap₂ (λ n xs. read_pieces (closed n sections name entries) (pieces xs)) same (sym back)
      where
        back : drop (length bytes - length rest + used) bytes ≡ drop used rest
        back =
            let whole : bytes ≡ (line ++ 10 ∷ []) ++ rest = cut ∙ sym (append_assoc line (10 ∷ []) rest) in
            let front = line ++ 10 ∷ [] in
            let long : length bytes ≡ length front + length rest = ap length whole ∙ length-append front rest in
            let place : length bytes - length rest + used ≡ length front + used = omega (arith, long) in
            ap (λ n. drop n bytes) place ∙ ap (drop (length front + used)) whole ∙ drop-append-add front rest used

-- the section was trimmed, where it is whole
pub section_whole : {E : Type 0} (bytes line rest name old new : List ℕ) (entries : List Entry) (lines used : ℕ)
    (wrong : Option Cause) (answer : Result Checked E) → pieces bytes ≡ line ∷ pieces rest → bytes ≡ line ++ 10 ∷ rest →
    name_in line ≡ Some name → (wrong ≡ None → WithinEnds rest (drop used rest) lines entries) →
    IfOk answer (λ c. c.lines ≡ lines + 1) → IfOk answer (λ c. c.used ≡ length bytes - length rest + used) →
    IfOk answer (λ c. c.wrong ≡ wrong) →
    IfOk answer (λ c. c.wrong ≡ None → (trimmed : List Entry)
    × IsTrimmedOf (record { name = name; entries = entries }) trimmed
    × (new ≡ old ++ (opening_text name ++ log_text trimmed))) →
    IfOk answer (λ c. c.wrong ≡ None → IsAppended bytes (drop c.used bytes) c.lines old new)
section_whole bytes line rest name old new entries lines used wrong (Ok c) piece cut named ends is_lines is_used is_wrong
    trimmed = λ right.
    let t = trimmed right in
    let S : ℕ → ℕ → Type 0 =
    λ n u. IsSectionBefore bytes (drop u bytes) n (record { name = name; entries = entries }) in
    let P : ℕ → Type 0 = λ u. S c.lines u in
    let Q : ℕ → Type 0 = λ n. S n (length bytes - length rest + used) in record {
      section = record { name = name; entries = entries };
      trimmed = t.0;
      goes = subst P (sym is_used) (subst Q (sym is_lines)
          (section_ends bytes line rest piece name named lines used entries cut (ends (sym is_wrong ∙ right))));
      form = t.1;
      text = t.2;
    }
section_whole bytes line rest name old new entries lines used wrong (Err e) piece cut named ends is_lines is_used is_wrong
    trimmed = tt

pub section_bad : {E : Type 0} (bytes line rest name : List ℕ) (lines : ℕ) (wrong : Option Cause)
    (answer : Result Checked E) → pieces bytes ≡ line ∷ pieces rest → name_in line ≡ Some name →
    IfSome wrong (WithinWrong rest lines) → IfOk answer (λ c. c.lines ≡ lines + 1) →
    IfOk answer (λ c. c.wrong ≡ wrong) → IfOk answer (λ c. IfSome c.wrong (IsWrongBehind bytes c.lines))
section_bad bytes line rest name lines wrong (Ok c) piece named bad is_lines is_wrong =
    let P : ℕ → Type 0 = λ n. IfSome c.wrong (IsWrongBehind bytes n) in
    let Q : Option Cause → Type 0 = λ o. IfSome o (IsWrongBehind bytes (lines + 1)) in
    subst P (sym is_lines) (subst Q (sym is_wrong) (by_wrong wrong bad))
  where
    by_wrong : (o : Option Cause) → IfSome o (WithinWrong rest lines) → IfSome o (IsWrongBehind bytes (lines + 1))
    by_wrong None w = tt
    by_wrong (Some cause) w = section_wrong bytes line rest piece name named lines cause w
section_bad bytes line rest name lines wrong (Err e) piece named bad is_lines is_wrong = tt

-- ---- the whole log

-- one section more
pub trimmed_push : (ss : List Section) (s : Section) (text : List ℕ) (t : List Entry) → AreTrimmed ss text →
    IsTrimmedOf s t → AreTrimmed (ss ++ s ∷ []) (text ++ (opening_text s.name ++ log_text t))
trimmed_push [] s text t none f = (
  t,
  [],
  f,
  ap (λ xs. xs ++ (opening_text s.name ++ log_text t)) none
      ∙ sym (append-nil (opening_text s.name ++ log_text t)),
  refl,
)
trimmed_push (d ∷ ss) s text t (first, rest, form, is, more) f = (
  first,
  rest ++ (opening_text s.name ++ log_text t),
  form,
  ap (λ xs. xs ++ (opening_text s.name ++ log_text t)) is
      ∙ append_assoc (opening_text d.name ++ log_text first) rest (opening_text s.name ++ log_text t),
  trimmed_push ss s rest t more f,
)

none_push : (ss : List Section) (s : Section) → has_none (ss ++ s ∷ []) ≡ false
none_push [] s = refl
none_push (d ∷ ss) s = refl

-- after so many lines these bytes are left, and the sections before them were trimmed
pub record IsLogged (bytes rest text : List ℕ) (lines : ℕ) : Type 0 where
  pub sections : List Section
  pub goes : read_pieces (between 0 []) (pieces bytes) ≡ read_pieces (between lines sections) (pieces rest)
  pub trimmed : AreTrimmed sections text
  pub none : has_none sections ≡ (lines == 0)

pub logged_start : (bytes text : List ℕ) → text ≡ [] → IsLogged bytes bytes text 0
logged_start bytes text none = record { sections = []; goes = refl; trimmed = none; none = refl }

pub logged_more : (bytes rest more old new : List ℕ) (lines count : ℕ) → IsLogged bytes rest old lines →
    IsAppended rest more count old new → 0 < count → IsLogged bytes more new (lines + count)
logged_more bytes rest more old new lines count l a some = record {
  sections = l.sections ++ a.section ∷ [];
  goes = l.goes ∙ a.goes lines l.sections;
  trimmed = subst (λ (xs : List ℕ). AreTrimmed (l.sections ++ a.section ∷ []) xs) (sym a.text)
      (trimmed_push l.sections a.section old a.trimmed l.trimmed a.form);
  none = none_push l.sections a.section ∙ sym (apart (lines + count) (omega (arith, some)));
}
  where
    apart : (n : ℕ) → 0 < n → (n == 0) ≡ false
    apart n h = grind arith

pub logged_wrong : (bytes rest text : List ℕ) (lines count : ℕ) (cause : Cause) → IsLogged bytes rest text lines →
    IsWrongBehind rest count cause →
    sections_in bytes ≡ Err (record { line = lines + count + 1; cause = cause })
logged_wrong bytes rest text lines count cause l wrong = l.goes ∙ wrong lines l.sections

pub logged_end : (bytes rest text : List ℕ) (lines : ℕ) → IsLogged bytes rest text lines → rest ≡ [] →
    IsAnswerTo bytes (answer_at_end lines text)
logged_end bytes rest text lines l none =
    let whole : sections_in bytes ≡ at_end (between lines l.sections) [] =
    l.goes ∙ ap (λ r. read_pieces (between lines l.sections) (pieces r)) none
    ∙ read-tail (between lines l.sections) [] refl in
    by_test (lines == 0) refl whole
  where
    zero_lines : (n : ℕ) → (n == 0) ≡ true → n ≡ 0
    zero_lines n h = grind arith

    by_test : (b : Bool) → (lines == 0) ≡ b → sections_in bytes ≡ at_end (between lines l.sections) [] →
        IsAnswerTo bytes (answer_at_end lines text)
    by_test true is whole =
        let same : lines ≡ 0 = zero_lines lines is in
        let wrong : sections_in bytes ≡ Err (record { line = 1; cause = Missing }) =
        whole ∙ ap (λ b. cond b (Err (record { line = lines + 1; cause = Missing })) (Ok l.sections)) (l.none ∙ is)
        ∙ ap (λ n. Err (record { line = n + 1; cause = Missing })) same in
        subst (λ (b : Bool). IsAnswerTo bytes (cond b (Wrong 1 Missing) (Trimmed text))) (sym is) wrong
    by_test false is whole =
        let right : sections_in bytes ≡ Ok l.sections =
        whole ∙ ap (λ b. cond b (Err (record { line = lines + 1; cause = Missing })) (Ok l.sections)) (l.none ∙ is) in
        subst (λ (b : Bool). IsAnswerTo bytes (cond b (Wrong 1 Missing) (Trimmed text))) (sym is)
        (l.sections, right, l.trimmed)

-- no byte is left
pub empty_of : (xs : List ℕ) → (length xs == 0) ≡ true → xs ≡ []
empty_of [] h = refl
empty_of (x ∷ xs) h = let long : length (x ∷ xs) ≡ 0 = eqb-true (length (x ∷ xs)) 0 h in absurd (omega (arith, long))

pub none_left : (xs : List ℕ) (turn most : ℕ) → turn + length xs ≤ most → most ≤ turn → xs ≡ []
none_left [] turn most h k = refl
none_left (x ∷ xs) turn most h k = absurd (omega (arith, h, k))

pub within_end : (bytes : List ℕ) (lines : ℕ) (text : List ℕ) → IsWithin bytes (answer_at_end lines text)
within_end bytes lines text = by_test (lines == 0)
  where
    by_test : (b : Bool) → IsWithin bytes (cond b (Wrong 1 Missing) (Trimmed text))
    by_test true = omega arith
    by_test false = tt
