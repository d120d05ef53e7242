-- Answers one after another.
use Rattle.std.proofs.Common.{◌≡◌, ℕ, zero, suc, ◌+◌, ◌<◌, ◌≤◌, Bool, true, false, ◌||◌, List, [], ◌∷◌, ◌++◌, length}
use Rattle.std.proofs.Common.{take, get_or, Option, Some, None, refl, ap, sym, subst, arith, ◌∙◌, append_assoc, inl}
use Rattle.std.proofs.Common.{inr}
use Rattle.std.specs.List.{last_or, list_any}
use Rattle.std.specs.Prelude.{IfSome}
use Rattle.std.proofs.lemmas.List.{append-nil}
use Rattle.std.proofs.lemmas.Option.{slice_get_read}
use Rattle.mw_outside.specs.Taken.{Takes, TakesPart, part_more, part_of_all, part_of_none, takes_more, takes_none}
use Rattle.ios_ast.specs.declared.file.File.{File}
use Rattle.cdcl_search.specs.Turns.{TellBumps}
use Rattle.question_lang.specs.declared.question.Question.{Question}
use Rattle.run_answers.specs.declared.verdict.Verdict.{Verdict}
use Rattle.run_answers.specs.declared.status.Status.{Status}
use Rattle.run_answers.specs.declared.status.Status.TheVariants.{Good, Bad, Unknown, Usage, Refused, ReadFault}
use Rattle.run_answers.specs.declared.status.Status.TheVariants.{WriteFault, Memory}
use Rattle.run_inputs.specs.Due.{Outcome, answering}
use Rattle.run_answers.specs.Answering.{IsCutShort, IsPut, IsToldSo, answer_of, status_by}
use Rattle.run_answers.specs.Running.{AnswersSo, AreAnswered, AreBegun, TellLast}
use Rattle.run_answers.specs.Verdicts.{Answer, AreRight, IsAnswer, answers_text, is_broken, is_broken_verdict}
use Rattle.run_answers.specs.Verdicts.{is_unknown, is_unknown_verdict, section_text, sections_text, verdict_text}
use Rattle.mw_text.proofs.Reading.{take-read}
use Rattle.mw_text.proofs.Found.{any_more}

-- one answer more is right
right_more : (files : List File) (budget number n : ℕ) (questions : List Question) (answers : List Answer)
    (question : Question) (answer : Answer) → AreRight files budget number questions answers →
    n ≡ number + length questions → IsAnswer files budget n question answer →
    AreRight files budget number (questions ++ question ∷ []) (answers ++ answer ∷ [])
right_more files budget number n [] [] question answer right place one =
    let P : ℕ → Type 0 = λ k. IsAnswer files budget k question answer in
    let here : n ≡ number = omega (arith, place) in (subst P here one, tt)
right_more files budget number n [] (b ∷ bs) question answer right place one = absurd right
right_more files budget number n (x ∷ xs) [] question answer right place one = absurd right
right_more files budget number n (x ∷ xs) (b ∷ bs) question answer right place one =
    (right.0, right_more files budget (number + 1) n xs bs question answer right.1 (omega (arith, place)) one)

-- the lines of one answer more
lines_more : (files : List File) (all : List Question) (budget number : ℕ) (questions : List Question)
    (answers : List Answer) (question : Question) (answer : Answer) → AreRight files budget number questions answers →
    answers_text files all questions answers ++ verdict_text files all question answer.verdict
    ≡ answers_text files all (questions ++ question ∷ []) (answers ++ answer ∷ [])
lines_more files all budget number [] [] question answer right =
    sym (append-nil (verdict_text files all question answer.verdict))
lines_more files all budget number [] (b ∷ bs) question answer right = absurd right
lines_more files all budget number (x ∷ xs) [] question answer right = absurd right
lines_more files all budget number (x ∷ xs) (b ∷ bs) question answer right =
    append_assoc (verdict_text files all x b.verdict) (answers_text files all xs bs)
    (verdict_text files all question answer.verdict)
    ∙ ap (λ t. verdict_text files all x b.verdict ++ t)
    (lines_more files all budget (number + 1) xs bs question answer right.1)

-- the section of one answer more
sections_more : (files : List File) (budget number : ℕ) (questions : List Question) (answers : List Answer)
    (question : Question) (answer : Answer) → AreRight files budget number questions answers →
    sections_text questions answers ++ section_text question answer.section
    ≡ sections_text (questions ++ question ∷ []) (answers ++ answer ∷ [])
sections_more files budget number [] [] question answer right = sym (append-nil (section_text question answer.section))
sections_more files budget number [] (b ∷ bs) question answer right = absurd right
sections_more files budget number (x ∷ xs) [] question answer right = absurd right
sections_more files budget number (x ∷ xs) (b ∷ bs) question answer right =
    append_assoc (section_text x b.section) (sections_text xs bs) (section_text question answer.section)
    ∙ ap (λ t. section_text x b.section ++ t)
    (sections_more files budget (number + 1) xs bs question answer right.1)

-- right answers to some questions stand, and which kinds of verdict are among them
pub record PutOf (files : List File) (all : List Question) (budget : ℕ) (questions : List Question)
    (broken unknown : Bool) (before now logged_before logged_now : Option (List ℕ)) (tolds : List (Option (List ℕ))) :
    Type 0 where
  pub answers : List Answer
  pub right : AreRight files budget 0 questions answers
  pub broken_so : broken ≡ list_any is_broken answers
  pub unknown_so : unknown ≡ list_any is_unknown answers
  pub text : Takes before now (answers_text files all questions answers)
  pub logged : Takes logged_before logged_now (sections_text questions answers)
  pub bumps : TellLast tolds answers

-- the last answer of some and one more
last_more : (o : Option Answer) (answers : List Answer) (answer : Answer) →
    last_or o (answers ++ answer ∷ []) ≡ Some answer
last_more o [] answer = refl
last_more o (x ∷ xs) answer = last_more (Some x) xs answer

told_more : (tolds : List (Option (List ℕ))) (answers : List Answer) (answer : Answer) →
    TellBumps tolds answer.section → TellLast tolds (answers ++ answer ∷ [])
told_more tolds answers answer bumps =
    let P : Option Answer → Type 0 = λ o. IfSome o (λ last. TellBumps tolds last.section) in
    subst P (sym (last_more None answers answer)) bumps

pub put-none : (files : List File) (questions : List Question) (budget : ℕ) (taken logged : Option (List ℕ))
    (tolds : List (Option (List ℕ))) →
    PutOf files questions budget (take 0 questions) false false taken taken logged logged tolds
put-none files questions budget taken logged tolds = by_questions questions where
  by_questions : (qs : List Question) →
      PutOf files questions budget (take 0 qs) false false taken taken logged logged tolds
  by_questions [] = record {
    answers = [];
    right = tt;
    broken_so = refl;
    unknown_so = refl;
    text = takes_none taken;
    logged = takes_none logged;
    bumps = tt;
  }
  by_questions (q ∷ qs) = record {
    answers = [];
    right = tt;
    broken_so = refl;
    unknown_so = refl;
    text = takes_none taken;
    logged = takes_none logged;
    bumps = tt;
  }

-- one answer more stands
put_next : (files : List File) (all : List Question) (budget n : ℕ) (questions : List Question) (question : Question)
    (verdict : Verdict) (broken unknown : Bool) (before middle now logged_before logged_middle logged_now : Option
    (List ℕ)) (earlier tolds : List (Option (List ℕ))) →
    PutOf files all budget questions broken unknown before middle logged_before logged_middle earlier →
    n ≡ length questions → IsPut files all budget n question verdict middle now logged_middle logged_now tolds →
    PutOf files all budget (questions ++ question ∷ []) (broken || is_broken_verdict verdict)
    (unknown || is_unknown_verdict verdict) before now logged_before logged_now tolds
put_next files all budget n questions question verdict broken unknown before middle now logged_before logged_middle
    logged_now earlier tolds so_far place ((section, is_right, logs, bumps), prints) =
    let answer = answer_of verdict section in
    let T : List ℕ → Type 0 = λ t. Takes before now t in
    let L : List ℕ → Type 0 = λ t. Takes logged_before logged_now t in
    record {
      answers = so_far.answers ++ answer ∷ [];
      right = right_more files budget 0 n questions so_far.answers question answer so_far.right (omega (arith, place))
          is_right;
      broken_so = ap (λ b. b || is_broken_verdict verdict) so_far.broken_so
          ∙ any_more is_broken so_far.answers answer;
      unknown_so = ap (λ b. b || is_unknown_verdict verdict) so_far.unknown_so
          ∙ any_more is_unknown so_far.answers answer;
      text = subst T (lines_more files all budget 0 questions so_far.answers question answer so_far.right)
          (takes_more before middle now _ _ so_far.text prints);
      logged = subst L (sections_more files budget 0 questions so_far.answers question answer so_far.right)
          (takes_more logged_before logged_middle logged_now _ _ so_far.logged logs);
      bumps = told_more tolds so_far.answers answer bumps;
    }

length-taken : (questions : List Question) (i : ℕ) → i ≤ length questions → i ≡ length (take i questions)
length-taken [] zero small = refl
length-taken [] (suc i) small = absurd (omega arith)
length-taken (x ∷ xs) zero small = refl
length-taken (x ∷ xs) (suc i) small = let rest = length-taken xs i (omega arith) in omega (arith, rest)

pub put-more : (files : List File) (questions : List Question) (budget i : ℕ) (question : Question) (verdict : Verdict)
    (broken unknown more_broken more_unknown : Bool)
    (before middle now logged_before logged_middle logged_now : Option (List ℕ))
    (earlier tolds : List (Option (List ℕ))) →
    PutOf files questions budget (take i questions) broken unknown before middle logged_before logged_middle earlier →
    i < length questions → question ≡ get_or questions i question →
    IsPut files questions budget i question verdict middle now logged_middle logged_now tolds →
    more_broken ≡ (broken || is_broken_verdict verdict) → more_unknown ≡ (unknown || is_unknown_verdict verdict) →
    PutOf files questions budget (take (i + 1) questions) more_broken more_unknown before now logged_before logged_now
    tolds
put-more files questions budget i question verdict broken unknown more_broken more_unknown before middle now
    logged_before logged_middle logged_now earlier tolds so_far within is put is_broken_now is_unknown_now =
    let P : List Question → Type 0 = λ qs. PutOf files questions budget qs (broken || is_broken_verdict verdict)
    (unknown || is_unknown_verdict verdict) before now logged_before logged_now tolds in
    let B : Bool → Type 0 = λ b. PutOf files questions budget (take (i + 1) questions) b
    (unknown || is_unknown_verdict verdict) before now logged_before logged_now tolds in
    let U : Bool → Type 0 = λ u. PutOf files questions budget (take (i + 1) questions) more_broken u before now
    logged_before logged_now tolds in
    let next : P (take (i + 1) questions) = subst P (sym (take-read questions i question within is))
    (put_next files questions budget i (take i questions) question verdict broken unknown before middle now
    logged_before logged_middle logged_now earlier tolds so_far (length-taken questions i (omega (arith, within)))
    put) in
    subst U (sym is_unknown_now) (subst B (sym is_broken_now) next)

-- a verdict that came, of which nothing is printed
pub cut_unprinted : (files : List File) (questions : List Question) (budget number : ℕ) (question : Question)
    (verdict : Verdict) (taken logged_before logged_now : Option (List ℕ)) (tolds : List (Option (List ℕ))) →
    IsToldSo files budget number question verdict logged_before logged_now tolds →
    IsCutShort files questions budget number question taken taken logged_before logged_now
cut_unprinted files questions budget number question verdict taken logged_before logged_now tolds
    (section, right, logs, bumps) =
    inr (verdict, (section, right, logs), part_of_none taken (verdict_text files questions question verdict))

-- a verdict that came, of whose lines a part is printed
pub cut_printed : (files : List File) (questions : List Question) (budget number : ℕ) (question : Question)
    (verdict : Verdict) (before now logged_before logged_now : Option (List ℕ)) (tolds : List (Option (List ℕ))) →
    IsToldSo files budget number question verdict logged_before logged_now tolds →
    TakesPart before now (verdict_text files questions question verdict) →
    IsCutShort files questions budget number question before now logged_before logged_now
cut_printed files questions budget number question verdict before now logged_before logged_now tolds
    (section, right, logs, bumps) part = inr (verdict, (section, right, logs), part)

-- an answer was cut short
pub put-cut : (files : List File) (questions : List Question) (budget i : ℕ) (question : Question) (broken unknown :
    Bool)
    (before middle now logged_before logged_middle logged_now : Option (List ℕ)) (earlier : List (Option (List ℕ))) →
    PutOf files questions budget (take i questions) broken unknown before middle logged_before logged_middle earlier →
    i < length questions → question ≡ get_or questions i question →
    IsCutShort files questions budget i question middle now logged_middle logged_now →
    AreBegun files questions budget before now logged_before logged_now
put-cut files questions budget i question broken unknown before middle now logged_before logged_middle logged_now earlier
    so_far within is (inl (same, (text, begun, part))) =
    let N : Option (List ℕ) → Type 0 =
    λ o. TakesPart before o (answers_text files questions (take i questions) so_far.answers) in record {
      count = i;
      answers = so_far.answers;
      right = so_far.right;
      text = subst N (sym same) (part_of_all before middle _ so_far.text);
      middle = logged_middle;
      logged = so_far.logged;
      next = text;
      begun = inr (
        question,
        slice_get_read questions (length questions) i question refl within is,
        begun,
      );
      part = part;
    }
put-cut files questions budget i question broken unknown before middle now logged_before logged_middle logged_now earlier
    so_far within is (inr (verdict, (section, is_right, logs), part)) =
    let answer = answer_of verdict section in
    let answers = so_far.answers ++ answer ∷ [] in
    let first = take i questions in
    let one : take (i + 1) questions ≡ first ++ question ∷ [] = take-read questions i question within is in
    let R : List Question → Type 0 = λ qs. AreRight files budget 0 qs answers in
    let Q : List Question → Type 0 = λ qs. TakesPart before now (answers_text files questions qs answers) in
    let M : List Question → Type 0 = λ qs. Takes logged_before logged_now (sections_text qs answers) in
    let T : List ℕ → Type 0 = λ t. TakesPart before now t in
    let L : List ℕ → Type 0 = λ t. Takes logged_before logged_now t in record {
      count = i + 1;
      answers = answers;
      right = subst R (sym one)
          (right_more files budget 0 i first so_far.answers question answer so_far.right
          (let few = length-taken questions i (omega (arith, within)) in omega (arith, few)) is_right);
      text = subst Q (sym one)
          (subst T (lines_more files questions budget 0 first so_far.answers question answer so_far.right)
          (part_more before middle now _ _ so_far.text part));
      middle = logged_now;
      logged = subst M (sym one)
          (subst L (sections_more files budget 0 first so_far.answers question answer so_far.right)
          (takes_more logged_before logged_middle logged_now _ _ so_far.logged logs));
      next = [];
      begun = inl refl;
      part = part_of_none logged_now [];
    }

take_all : (xs : List Question) (k : ℕ) → length xs ≤ k → take k xs ≡ xs
take_all [] zero h = refl
take_all [] (suc k) h = refl
take_all (x ∷ xs) zero h = absurd (omega arith)
take_all (x ∷ xs) (suc k) h = ap (λ ys. x ∷ ys) (take_all xs k (omega arith))

-- all answers stand
pub put-all : (files : List File) (questions : List Question) (budget i : ℕ) (broken unknown : Bool) (status : Status)
    (before now logged_before logged_now : Option (List ℕ)) (tolds : List (Option (List ℕ))) (rose : Type 0) →
    PutOf files questions budget (take i questions) broken unknown before now logged_before logged_now tolds →
    length questions ≤ i → status ≡ status_by broken unknown →
    AnswersSo (answering files questions budget) status before now logged_before logged_now tolds rose
put-all files questions budget i broken unknown status before now logged_before logged_now tolds rose so_far done is =
    let P : List Question → Type 0 =
    λ qs. PutOf files questions budget qs broken unknown before now logged_before logged_now tolds in
    let S : Status → Type 0 =
    λ s. AnswersSo (answering files questions budget) s before now logged_before logged_now tolds rose in
    subst S (sym is) (by_kinds broken unknown (subst P (take_all questions i done) so_far))
  where
    whole : (b u : Bool) → PutOf files questions budget questions b u before now logged_before logged_now tolds →
        AreAnswered files questions budget (status_by b u) before now logged_before logged_now tolds
    whole b u all = record {
      answers = all.answers;
      right = all.right;
      ends = ap (λ x. status_by x u) all.broken_so ∙ ap (status_by (list_any is_broken all.answers)) all.unknown_so;
      text = all.text;
      logged = all.logged;
      bumps = all.bumps;
    }

    by_kinds : (b u : Bool) → PutOf files questions budget questions b u before now logged_before logged_now tolds →
        AnswersSo (answering files questions budget) (status_by b u) before now logged_before logged_now tolds rose
    by_kinds true u all = whole true u all
    by_kinds false true all = whole false true all
    by_kinds false false all = whole false false all

-- the same, where a fault has one cause more
pub answers_map : (outcome : Outcome) (status : Status) (before now logged_before logged_now : Option (List ℕ))
    (tolds : List (Option (List ℕ))) (rose more : Type 0) → (rose → more) →
    AnswersSo outcome status before now logged_before logged_now tolds rose →
    AnswersSo outcome status before now logged_before logged_now tolds more
answers_map outcome status before now logged_before logged_now tolds rose more from so = by_status status so where
  by_status : (s : Status) → AnswersSo outcome s before now logged_before logged_now tolds rose →
      AnswersSo outcome s before now logged_before logged_now tolds more
  by_status Good all = all
  by_status Bad all = all
  by_status Unknown all = all
  by_status Usage none = none
  by_status Refused none = none
  by_status ReadFault none = none
  by_status WriteFault cut = (cut.0, from cut.1)
  by_status Memory cut = cut
