-- Answers one after another.
use Rattle.std.proofs.Common.{◌≡◌, ◌∙◌, ℕ, ◌+◌, ◌≤◌, Bool, true, false, ◌||◌, List, [], ◌∷◌, ◌++◌, length, take}
use Rattle.std.proofs.Common.{Option, Some, None, refl, ap, sym, subst, arith, append_assoc, inl, inr}
use Rattle.std.specs.Prelude.{IfSome, slice_get}
use Rattle.std.specs.List.{list_any}
use Rattle.std.proofs.lemmas.List.{append-nil, length-take-le, take_all}
use Rattle.std.proofs.lemmas.Option.{get_or_from_slice_get, slice_get_within}
use Rattle.ios_ast.specs.declared.file.File.{File}
use Rattle.mw_load.specs.declared.ended.Ended.{Ended}
use Rattle.mw_outside.specs.Taken.{Takes, TakesPart, part_more, part_of_all, takes_more, takes_none}
use Rattle.mw_text.proofs.Reading.{take-read}
use Rattle.mw_text.proofs.Found.{any_more}
use Rattle.question_lang.specs.declared.question.Question.{Question}
use Rattle.run_answers.specs.declared.seen.Seen.{Seen}
use Rattle.asked_files.proofs.Endings.{last_more}
use Rattle.asked_files.specs.Ending.{NoWriteFailed, Writes, ended_by}
use Rattle.least_failures.specs.Answering.{AnswersSo, AreAnswered, AreBegun, AreRight, IsCutShort, IsPut, TellLastOf}
use Rattle.least_failures.specs.Answering.{answers_text, is_broken, is_unknown, sections_text}
use Rattle.least_failures.specs.declared.outcome.Least.{Least}
use Rattle.least_failures.specs.Finding.{IsFound, IsUnfound, OfQuestion, TellLast}
use Rattle.least_failures.specs.Leasts.{Answer, IsAnswer, trials_text}
use Rattle.least_failures.specs.Lines.{least_text}

-- right answers to these of all questions: their whole text and their sections stand, deciders tell the bumps of the last
-- section, and it is known whether some has a least number, and whether some is not known
pub record AreSeen (files : List File) (all : List Question) (budget : ℕ) (questions : List Question)
    (before now logged_before logged_now : Option (List ℕ)) (tolds : List (Option (List ℕ))) (seen : Seen) : Type 0
  where
    pub answers : List Answer
    pub right : AreRight files budget 0 questions answers
    pub broken : seen.broken ≡ list_any (λ a. is_broken a.found) answers
    pub unknown : seen.unknown ≡ list_any (λ a. is_unknown a.found) answers
    pub text : Takes before now (answers_text files all budget questions answers)
    pub logged : Takes logged_before logged_now (sections_text questions answers)
    pub bumps : TellLastOf tolds answers

-- one answer more is right
right_more : (files : List File) (budget number n : ℕ) (questions : List Question) (answers : List Answer)
    (question : Question) (answer : Answer) → AreRight files budget number questions answers →
    n ≡ number + length questions → IsAnswer files budget n question answer →
    AreRight files budget number (questions ++ question ∷ []) (answers ++ answer ∷ [])
right_more files budget number n [] [] question answer right place one =
    let P : ℕ → Type 0 = λ k. IsAnswer files budget k question answer in
    let here : n ≡ number = omega (arith, place) in (subst P here one, tt)
right_more files budget number n [] (b ∷ bs) question answer right place one = absurd right
right_more files budget number n (x ∷ xs) [] question answer right place one = absurd right
right_more files budget number n (x ∷ xs) (b ∷ bs) question answer right place one =
    (right.0, right_more files budget (number + 1) n xs bs question answer right.1 (omega (arith, place)) one)

-- the lines of one answer more
lines_more : (files : List File) (all : List Question) (budget number : ℕ) (questions : List Question)
    (answers : List Answer) (question : Question) (answer : Answer) → AreRight files budget number questions answers →
    answers_text files all budget questions answers ++ least_text files all question budget answer.found
    ≡ answers_text files all budget (questions ++ question ∷ []) (answers ++ answer ∷ [])
lines_more files all budget number [] [] question answer right =
    sym (append-nil (least_text files all question budget answer.found))
lines_more files all budget number [] (b ∷ bs) question answer right = absurd right
lines_more files all budget number (x ∷ xs) [] question answer right = absurd right
lines_more files all budget number (x ∷ xs) (b ∷ bs) question answer right =
    append_assoc (least_text files all x budget b.found) (answers_text files all budget xs bs)
    (least_text files all question budget answer.found)
    ∙ ap (λ t. least_text files all x budget b.found ++ t)
    (lines_more files all budget (number + 1) xs bs question answer right.1)

-- the sections of one answer more
sections_more : (files : List File) (budget number : ℕ) (questions : List Question) (answers : List Answer)
    (question : Question) (answer : Answer) → AreRight files budget number questions answers →
    sections_text questions answers ++ trials_text question 0 answer.sections
    ≡ sections_text (questions ++ question ∷ []) (answers ++ answer ∷ [])
sections_more files budget number [] [] question answer right = sym (append-nil (trials_text question 0 answer.sections))
sections_more files budget number [] (b ∷ bs) question answer right = absurd right
sections_more files budget number (x ∷ xs) [] question answer right = absurd right
sections_more files budget number (x ∷ xs) (b ∷ bs) question answer right =
    append_assoc (trials_text x 0 b.sections) (sections_text xs bs) (trials_text question 0 answer.sections)
    ∙ ap (λ t. trials_text x 0 b.sections ++ t)
    (sections_more files budget (number + 1) xs bs question answer right.1)

told_more : (tolds : List (Option (List ℕ))) (answers : List Answer) (answer : Answer) →
    TellLast tolds answer.sections → TellLastOf tolds (answers ++ answer ∷ [])
told_more tolds answers answer bumps =
    let P : Option Answer → Type 0 = λ o. IfSome o (λ last. TellLast tolds last.sections) in
    subst P (sym (last_more None answers answer)) bumps

-- ---- the loop

abbrev none_seen : Seen
none_seen = record { broken = false; unknown = false }

-- before the first question
pub seen_none : (files : List File) (questions : List Question) (budget : ℕ) (taken logged : Option (List ℕ))
    (tolds : List (Option (List ℕ))) (seen : Seen) → seen ≡ none_seen →
    AreSeen files questions budget (take 0 questions) taken taken logged logged tolds seen
seen_none files questions budget taken logged tolds seen is = by_questions questions where
  by_questions : (qs : List Question) → AreSeen files questions budget (take 0 qs) taken taken logged logged tolds seen
  by_questions [] = record {
    answers = [];
    right = tt;
    broken = ap (λ s. s.broken) is;
    unknown = ap (λ s. s.unknown) is;
    text = takes_none taken;
    logged = takes_none logged;
    bumps = tt;
  }
  by_questions (q ∷ qs) = record {
    answers = [];
    right = tt;
    broken = ap (λ s. s.broken) is;
    unknown = ap (λ s. s.unknown) is;
    text = takes_none taken;
    logged = takes_none logged;
    bumps = tt;
  }

-- one question more
one_more : (questions : List Question) (i : ℕ) (question : Question) → slice_get questions i ≡ Some question →
    take (i + 1) questions ≡ take i questions ++ question ∷ []
one_more questions i question there =
    take-read questions i question (slice_get_within questions i question there)
    (sym (get_or_from_slice_get questions i question question there))

place_of : (questions : List Question) (i : ℕ) (question : Question) → slice_get questions i ≡ Some question →
    i ≡ 0 + length (take i questions)
place_of questions i question there =
    let within = slice_get_within questions i question there in
    let len = length-take-le i questions (omega (arith, within)) in omega (arith, len)

pub seen_more : (files : List File) (questions : List Question) (budget i : ℕ) (seen next : Seen) (found : Least)
    (before middle now logged_before logged_middle logged_now : Option (List ℕ)) (earlier tolds : List (Option (List ℕ))) →
    AreSeen files questions budget (take i questions) before middle logged_before logged_middle earlier seen →
    OfQuestion questions i
    (λ question. IsPut files questions budget i question middle now logged_middle logged_now tolds found) →
    next.broken ≡ (seen.broken || is_broken found) → next.unknown ≡ (seen.unknown || is_unknown found) →
    AreSeen files questions budget (take (i + 1) questions) before now logged_before logged_now tolds next
seen_more files questions budget i seen next found before middle now logged_before logged_middle logged_now earlier tolds
    so_far (question, there, (is, prints)) broken unknown =
    let answer : Answer = record { found = found; sections = is.sections } in
    let first = take i questions in
    let T : List ℕ → Type 0 = λ t. Takes before now t in
    let L : List ℕ → Type 0 = λ t. Takes logged_before logged_now t in
    let S : List Question → Type 0 =
    λ qs. AreSeen files questions budget qs before now logged_before logged_now tolds next in
    subst S (sym (one_more questions i question there)) (record {
      answers = so_far.answers ++ answer ∷ [];
      right = right_more files budget 0 i first so_far.answers question answer so_far.right
          (place_of questions i question there) (is.right, is.trials);
      broken = broken ∙ ap (λ b. b || is_broken found) so_far.broken
          ∙ any_more (λ a. is_broken a.found) so_far.answers answer;
      unknown = unknown ∙ ap (λ b. b || is_unknown found) so_far.unknown
          ∙ any_more (λ a. is_unknown a.found) so_far.answers answer;
      text = subst T (lines_more files questions budget 0 first so_far.answers question answer so_far.right)
          (takes_more before middle now _ _ so_far.text prints);
      logged = subst L (sections_more files budget 0 first so_far.answers question answer so_far.right)
          (takes_more logged_before logged_middle logged_now _ _ so_far.logged is.logged);
      bumps = told_more tolds so_far.answers answer is.bumps;
    })

pub seen_all : (files : List File) (questions : List Question) (budget i : ℕ) (seen : Seen)
    (before now logged_before logged_now : Option (List ℕ)) (tolds : List (Option (List ℕ))) → length questions ≤ i →
    AreSeen files questions budget (take i questions) before now logged_before logged_now tolds seen →
    AreSeen files questions budget questions before now logged_before logged_now tolds seen
seen_all files questions budget i seen before now logged_before logged_now tolds done so_far =
    let S : List Question → Type 0 =
    λ qs. AreSeen files questions budget qs before now logged_before logged_now tolds seen in
    subst S (take_all i questions done) so_far

-- ---- one question

-- there is one question at a place
one_there : (questions : List Question) (n : ℕ) (a b : Question) → slice_get questions n ≡ Some a →
    slice_get questions n ≡ Some b → a ≡ b
one_there questions n a b first second = let same : Some a ≡ Some b = sym first ∙ second in cc

pub put_found : (files : List File) (questions : List Question) (budget number : ℕ) (question : Question) (found : Least)
    (before now logged_before logged_now : Option (List ℕ)) (tolds : List (Option (List ℕ))) →
    slice_get questions number ≡ Some question →
    OfQuestion questions number (λ q. IsFound files budget number q logged_before logged_now tolds found) →
    Takes before now (least_text files questions question budget found) →
    OfQuestion questions number
    (λ q. IsPut files questions budget number q before now logged_before logged_now tolds found)
put_found files questions budget number question found before now logged_before logged_now tolds there (q, at, is) takes =
    let T : Question → Type 0 = λ x. Takes before now (least_text files questions x budget found) in
    (q, at, (is, subst T (one_there questions number question q there at) takes))

-- what was found, of whose lines a part is printed
pub cut_found : (files : List File) (questions : List Question) (budget number : ℕ) (question : Question) (found : Least)
    (before now logged_before logged_now : Option (List ℕ)) (tolds : List (Option (List ℕ))) →
    slice_get questions number ≡ Some question →
    OfQuestion questions number (λ q. IsFound files budget number q logged_before logged_now tolds found) →
    TakesPart before now (least_text files questions question budget found) →
    OfQuestion questions number (λ q. IsCutShort files questions budget number q before now logged_before logged_now)
cut_found files questions budget number question found before now logged_before logged_now tolds there (q, at, is) part =
    let T : Question → Type 0 = λ x. TakesPart before now (least_text files questions x budget found) in (
      q,
      at,
      inr (
        record { found = found; sections = is.sections },
        (is.right, is.trials),
        is.logged,
        subst T (one_there questions number question q there at) part,
      ),
    )

-- nothing was found, and nothing is printed
pub cut_unfound : (files : List File) (questions : List Question) (budget number : ℕ)
    (taken logged_before logged_now : Option (List ℕ)) →
    OfQuestion questions number (λ q. IsUnfound files budget q logged_before logged_now) →
    OfQuestion questions number (λ q. IsCutShort files questions budget number q taken taken logged_before logged_now)
cut_unfound files questions budget number taken logged_before logged_now (q, at, left) = (q, at, inl (refl, left))

-- ---- cut short

pub seen_cut : (files : List File) (questions : List Question) (budget i : ℕ) (seen : Seen)
    (before middle now logged_before logged_middle logged_now : Option (List ℕ)) (earlier : List (Option (List ℕ))) →
    AreSeen files questions budget (take i questions) before middle logged_before logged_middle earlier seen →
    OfQuestion questions i
    (λ question. IsCutShort files questions budget i question middle now logged_middle logged_now) →
    AreBegun files questions budget before now logged_before logged_now
seen_cut files questions budget i seen before middle now logged_before logged_middle logged_now earlier so_far
    (question, there, inl (same, left)) =
    let N : Option (List ℕ) → Type 0 =
    λ o. TakesPart before o (answers_text files questions budget (take i questions) so_far.answers) in record {
      count = i;
      answers = so_far.answers;
      right = so_far.right;
      text = subst N (sym same) (part_of_all before middle _ so_far.text);
      middle = logged_middle;
      logged = so_far.logged;
      next = inr (question, there, left);
    }
seen_cut files questions budget i seen before middle now logged_before logged_middle logged_now earlier so_far
    (question, there, inr (answer, is, logs, part)) =
    let answers = so_far.answers ++ answer ∷ [] in
    let first = take i questions in
    let one = one_more questions i question there in
    let R : List Question → Type 0 = λ qs. AreRight files budget 0 qs answers in
    let Q : List Question → Type 0 = λ qs. TakesPart before now (answers_text files questions budget qs answers) in
    let M : List Question → Type 0 = λ qs. Takes logged_before logged_now (sections_text qs answers) in
    let T : List ℕ → Type 0 = λ t. TakesPart before now t in
    let L : List ℕ → Type 0 = λ t. Takes logged_before logged_now t in record {
      count = i + 1;
      answers = answers;
      right = subst R (sym one)
          (right_more files budget 0 i first so_far.answers question answer so_far.right
          (place_of questions i question there) is);
      text = subst Q (sym one)
          (subst T (lines_more files questions budget 0 first so_far.answers question answer so_far.right)
          (part_more before middle now _ _ so_far.text part));
      middle = logged_now;
      logged = subst M (sym one)
          (subst L (sections_more files budget 0 first so_far.answers question answer so_far.right)
          (takes_more logged_before logged_middle logged_now _ _ so_far.logged logs));
      next = inl refl;
    }

-- ---- how they end

pub seen_answers : (files : List File) (questions : List Question) (budget : ℕ) (w : Writes) (seen : Seen) (how : Ended) →
    how ≡ ended_by seen.broken seen.unknown → NoWriteFailed w →
    AreSeen files questions budget questions w.taken w.taken_now w.logged w.logged_now w.tolds seen →
    AnswersSo files questions budget w how
seen_answers files questions budget w seen how is written all =
    let S : Ended → Type 0 = λ e. AnswersSo files questions budget w e in
    subst S (sym is) (by_kinds seen.broken seen.unknown refl refl)
  where
    whole : (b u : Bool) → seen.broken ≡ b → seen.unknown ≡ u →
        AreAnswered files questions budget w.taken w.taken_now w.logged w.logged_now w.tolds (ended_by b u)
    whole b u broken unknown = record {
      answers = all.answers;
      right = all.right;
      ends = ap (λ x. ended_by x u) (sym broken ∙ all.broken)
          ∙ ap (ended_by (list_any (λ a. is_broken a.found) all.answers)) (sym unknown ∙ all.unknown);
      text = all.text;
      logged = all.logged;
      bumps = all.bumps;
    }

    by_kinds : (b u : Bool) → seen.broken ≡ b → seen.unknown ≡ u → AnswersSo files questions budget w (ended_by b u)
    by_kinds true u broken unknown = (written, whole true u broken unknown)
    by_kinds false true broken unknown = (written, whole false true broken unknown)
    by_kinds false false broken unknown = (written, whole false false broken unknown)
