-- Answers one after another.
use Rattle.std.proofs.Common.{◌≡◌, ◌∙◌, ℕ, ◌+◌, ◌≤◌, Bool, true, false, ◌||◌, List, [], ◌∷◌, ◌++◌, length, take}
use Rattle.std.proofs.Common.{Option, Some, None, refl, ap, sym, subst, append_assoc, inl, inr}
use Rattle.std.specs.Prelude.{IfSome, slice_get}
use Rattle.std.specs.List.{list_any}
use Rattle.std.proofs.lemmas.List.{append-nil, take_all}
use Rattle.mw_text.proofs.Found.{any_more, take_at}
use Rattle.mw_load.specs.declared.ended.Ended.{Ended}
use Rattle.mw_outside.specs.Taken.{Takes, TakesPart, part_more, part_of_all, takes_more, takes_none}
use Rattle.run_answers.specs.declared.seen.Seen.{Seen}
use Rattle.asked_files.specs.Ending.{NoWriteFailed, Writes, ended_by}
use Rattle.asked_files.specs.Answering.{Answering, AnswersSo, AreAnswered, AreBegun, AreRight, IsCutShort, IsPut, TellLast}
use Rattle.asked_files.specs.Answering.{texts_of}
use Rattle.asked_files.proofs.Endings.{last_more}

-- right answers to these asks: their whole text and their sections stand, deciders tell the bumps of the last section, and
-- it is known whether some is broken, and whether some is unknown
pub record AreSeen {Q A : Type 0} (k : Answering Q A) (asks : List Q)
    (before now logged_before logged_now : Option (List ℕ)) (tolds : List (Option (List ℕ))) (seen : Seen) : Type 0
  where
    pub answers : List A
    pub right : AreRight k asks answers
    pub broken : seen.broken ≡ list_any k.broken answers
    pub unknown : seen.unknown ≡ list_any k.unknown answers
    pub text : Takes before now (texts_of k.lines asks answers)
    pub logged : Takes logged_before logged_now (texts_of k.section asks answers)
    pub bumps : TellLast k tolds answers

-- one answer more is right
right_more : {Q A : Type 0} (k : Answering Q A) (asks : List Q) (answers : List A) (ask : Q) (answer : A) →
    AreRight k asks answers → k.Right ask answer → AreRight k (asks ++ ask ∷ []) (answers ++ answer ∷ [])
right_more k [] [] ask answer right one = (one, tt)
right_more k [] (b ∷ bs) ask answer right one = absurd right
right_more k (x ∷ xs) [] ask answer right one = absurd right
right_more k (x ∷ xs) (b ∷ bs) ask answer right one = (right.0, right_more k xs bs ask answer right.1 one)

-- the text of one answer more
text_more : {Q A : Type 0} (k : Answering Q A) (f : Q → A → List ℕ) (asks : List Q) (answers : List A) (ask : Q)
    (answer : A) → AreRight k asks answers →
    texts_of f asks answers ++ f ask answer ≡ texts_of f (asks ++ ask ∷ []) (answers ++ answer ∷ [])
text_more k f [] [] ask answer right = sym (append-nil (f ask answer))
text_more k f [] (b ∷ bs) ask answer right = absurd right
text_more k f (x ∷ xs) [] ask answer right = absurd right
text_more k f (x ∷ xs) (b ∷ bs) ask answer right =
    append_assoc (f x b) (texts_of f xs bs) (f ask answer)
    ∙ ap (λ t. f x b ++ t) (text_more k f xs bs ask answer right.1)

told_more : {Q A : Type 0} (k : Answering Q A) (tolds : List (Option (List ℕ))) (answers : List A) (answer : A) →
    k.Tells tolds answer → TellLast k tolds (answers ++ answer ∷ [])
told_more {Q} {A} k tolds answers answer bumps =
    let P : Option A → Type 0 = λ o. IfSome o (k.Tells tolds) in
    subst P (sym (last_more None answers answer)) bumps

-- ---- the loop

abbrev none_seen : Seen
none_seen = record { broken = false; unknown = false }

-- before the first ask
pub seen_none : {Q A : Type 0} (k : Answering Q A) (asks : List Q) (taken logged : Option (List ℕ))
    (tolds : List (Option (List ℕ))) (seen : Seen) → seen ≡ none_seen →
    AreSeen k (take 0 asks) taken taken logged logged tolds seen
seen_none {Q} {A} k asks taken logged tolds seen is = by_asks asks where
  by_asks : (qs : List Q) → AreSeen k (take 0 qs) taken taken logged logged tolds seen
  by_asks [] = record {
    answers = [];
    right = tt;
    broken = ap (λ s. s.broken) is;
    unknown = ap (λ s. s.unknown) is;
    text = takes_none taken;
    logged = takes_none logged;
    bumps = tt;
  }
  by_asks (q ∷ qs) = record {
    answers = [];
    right = tt;
    broken = ap (λ s. s.broken) is;
    unknown = ap (λ s. s.unknown) is;
    text = takes_none taken;
    logged = takes_none logged;
    bumps = tt;
  }

pub seen_more : {Q A : Type 0} (k : Answering Q A) (asks : List Q) (i : ℕ) (seen next : Seen) (ask : Q) (answer : A)
    (before middle now logged_before logged_middle logged_now : Option (List ℕ)) (earlier tolds : List (Option (List ℕ))) →
    AreSeen k (take i asks) before middle logged_before logged_middle earlier seen →
    slice_get asks i ≡ Some ask → IsPut k ask middle now logged_middle logged_now tolds answer →
    next.broken ≡ (seen.broken || k.broken answer) → next.unknown ≡ (seen.unknown || k.unknown answer) →
    AreSeen k (take (i + 1) asks) before now logged_before logged_now tolds next
seen_more {Q} {A} k asks i seen next ask answer before middle now logged_before logged_middle logged_now earlier tolds
    so_far there (right, logs, bumps, prints) broken unknown =
    let first = take i asks in
    let T : List ℕ → Type 0 = λ t. Takes before now t in
    let L : List ℕ → Type 0 = λ t. Takes logged_before logged_now t in
    let S : List Q → Type 0 = λ qs. AreSeen k qs before now logged_before logged_now tolds next in
    subst S (sym (take_at asks i ask there)) (record {
      answers = so_far.answers ++ answer ∷ [];
      right = right_more k first so_far.answers ask answer so_far.right right;
      broken = broken ∙ ap (λ b. b || k.broken answer) so_far.broken ∙ any_more k.broken so_far.answers answer;
      unknown = unknown ∙ ap (λ b. b || k.unknown answer) so_far.unknown ∙ any_more k.unknown so_far.answers answer;
      text = subst T (text_more k k.lines first so_far.answers ask answer so_far.right)
          (takes_more before middle now _ _ so_far.text prints);
      logged = subst L (text_more k k.section first so_far.answers ask answer so_far.right)
          (takes_more logged_before logged_middle logged_now _ _ so_far.logged logs);
      bumps = told_more k tolds so_far.answers answer bumps;
    })

pub seen_all : {Q A : Type 0} (k : Answering Q A) (asks : List Q) (i : ℕ) (seen : Seen)
    (before now logged_before logged_now : Option (List ℕ)) (tolds : List (Option (List ℕ))) → length asks ≤ i →
    AreSeen k (take i asks) before now logged_before logged_now tolds seen →
    AreSeen k asks before now logged_before logged_now tolds seen
seen_all {Q} {A} k asks i seen before now logged_before logged_now tolds done so_far =
    let S : List Q → Type 0 = λ qs. AreSeen k qs before now logged_before logged_now tolds seen in
    subst S (take_all i asks done) so_far

-- ---- cut short

pub seen_cut : {Q A : Type 0} (k : Answering Q A) (asks : List Q) (i : ℕ) (seen : Seen) (ask : Q)
    (before middle now logged_before logged_middle logged_now : Option (List ℕ)) (earlier : List (Option (List ℕ))) →
    AreSeen k (take i asks) before middle logged_before logged_middle earlier seen →
    slice_get asks i ≡ Some ask → IsCutShort k ask middle now logged_middle logged_now →
    AreBegun k asks before now logged_before logged_now
seen_cut k asks i seen ask before middle now logged_before logged_middle logged_now earlier so_far there
    (inl (same, left)) =
    let N : Option (List ℕ) → Type 0 =
    λ o. TakesPart before o (texts_of k.lines (take i asks) so_far.answers) in record {
      count = i;
      answers = so_far.answers;
      right = so_far.right;
      text = subst N (sym same) (part_of_all before middle _ so_far.text);
      middle = logged_middle;
      logged = so_far.logged;
      next = inr (ask, there, left);
    }
seen_cut {Q} {A} k asks i seen ask before middle now logged_before logged_middle logged_now earlier so_far there
    (inr (answer, is, logs, part)) =
    let answers = so_far.answers ++ answer ∷ [] in
    let first = take i asks in
    let one = take_at asks i ask there in
    let R : List Q → Type 0 = λ qs. AreRight k qs answers in
    let P : List Q → Type 0 = λ qs. TakesPart before now (texts_of k.lines qs answers) in
    let M : List Q → Type 0 = λ qs. Takes logged_before logged_now (texts_of k.section qs answers) in
    let T : List ℕ → Type 0 = λ t. TakesPart before now t in
    let L : List ℕ → Type 0 = λ t. Takes logged_before logged_now t in record {
      count = i + 1;
      answers = answers;
      right = subst R (sym one) (right_more k first so_far.answers ask answer so_far.right is);
      text = subst P (sym one)
          (subst T (text_more k k.lines first so_far.answers ask answer so_far.right)
          (part_more before middle now _ _ so_far.text part));
      middle = logged_now;
      logged = subst M (sym one)
          (subst L (text_more k k.section first so_far.answers ask answer so_far.right)
          (takes_more logged_before logged_middle logged_now _ _ so_far.logged logs));
      next = inl refl;
    }

-- ---- how they end

pub seen_answers : {Q A : Type 0} (k : Answering Q A) (asks : List Q) (w : Writes) (seen : Seen) (how : Ended) →
    how ≡ ended_by seen.broken seen.unknown → NoWriteFailed w →
    AreSeen k asks w.taken w.taken_now w.logged w.logged_now w.tolds seen → AnswersSo k asks w how
seen_answers {Q} {A} k asks w seen how is written all =
    let S : Ended → Type 0 = λ e. AnswersSo k asks w e in
    subst S (sym is) (by_kinds seen.broken seen.unknown refl refl)
  where
    whole : (b u : Bool) → seen.broken ≡ b → seen.unknown ≡ u →
        AreAnswered k asks w.taken w.taken_now w.logged w.logged_now w.tolds (ended_by b u)
    whole b u broken unknown = record {
      answers = all.answers;
      right = all.right;
      ends = ap (λ x. ended_by x u) (sym broken ∙ all.broken)
          ∙ ap (ended_by (list_any k.broken all.answers)) (sym unknown ∙ all.unknown);
      text = all.text;
      logged = all.logged;
      bumps = all.bumps;
    }

    by_kinds : (b u : Bool) → seen.broken ≡ b → seen.unknown ≡ u → AnswersSo k asks w (ended_by b u)
    by_kinds true u broken unknown = (written, whole true u broken unknown)
    by_kinds false true broken unknown = (written, whole false true broken unknown)
    by_kinds false false broken unknown = (written, whole false false broken unknown)
