-- What is said of counterexamples, one after another.
use Rattle.std.proofs.Common.{◌≡◌, ℕ, zero, suc, ◌+◌, ◌<◌, ◌≤◌, ◌&&◌, Bool, true, false, List, [], ◌∷◌, ◌++◌, length, drop, get_or}
use Rattle.std.proofs.Common.{Option, Some, None, refl, ap, sym, subst, ◌∙◌, append_assoc, append-nil, arith}
use Rattle.std.specs.Prelude.{is_none, All}
use Rattle.std.proofs.lemmas.Bool.{false≢true}
use Rattle.std.proofs.lemmas.List.{drop_all}
use Rattle.std.proofs.lemmas.List.Elements.{All-append, All-cons, All-get_or, All-nil}
use Rattle.std.proofs.Math.Bool.{and-true}
use Rattle.mw_text.proofs.Lists.{drop-read}
use Rattle.ios_ast.specs.declared.file.File.{File}
use Rattle.question_lang.specs.declared.question.Question.{Question}
use Rattle.cex_json.specs.declared.counterexample.Counterexample.{Counterexample}
use Rattle.stable_replay.specs.declared.differs.ReplayNo.{ReplayNo}
use Rattle.run_inputs.specs.Loading.{IsAdmitted}
use Rattle.run_answers.specs.declared.status.Status.{Status}
use Rattle.run_answers.specs.declared.status.Status.TheVariants.{Good}
use Rattle.run_answers.specs.Replays.{IsReplayLine}
use Rattle.show_run.specs.declared.telling.Said.{Said}
use Rattle.show_run.specs.Said.{AreAdmitted, AreSaid, AreTold, IsNext, IsSaid, IsShown, none_text, status_of}

-- ---- one counterexample

no_line : (drawn : Bool) (files : List File) (questions : List Question) (cex : Counterexample) (text : List ℕ) →
    IsReplayLine files questions cex false text → IsSaid drawn files questions cex text false
no_line drawn files questions cex text (None, right, is, told) = absurd (false≢true is)
no_line drawn files questions cex text (Some why, right, is, told) = (Some why, right, refl, told)

-- one that is not true
pub said_no : (drawn : Bool) (files : List File) (questions : List Question) (cex : Counterexample) (good : Bool) (text : List ℕ) →
    IsReplayLine files questions cex good text → good ≡ false → IsSaid drawn files questions cex text false
said_no drawn files questions cex good text line is =
    no_line drawn files questions cex text (subst (λ b. IsReplayLine files questions cex b text) is line)

yes_line : (drawn : Bool) (files : List File) (questions : List Question) (cex : Counterexample) (text story : List ℕ) →
    IsReplayLine files questions cex true text → IsShown drawn files cex.walk story → IsSaid drawn files questions cex story true
yes_line drawn files questions cex text story (None, right, is, told) tells = (None, right, refl, tells)
yes_line drawn files questions cex text story (Some why, right, is, told) tells = absurd (false≢true (sym is))

-- one that is
pub said_yes : (drawn : Bool) (files : List File) (questions : List Question) (cex : Counterexample) (good : Bool)
    (text story : List ℕ) → IsReplayLine files questions cex good text → good ≡ true → IsShown drawn files cex.walk story →
    IsSaid drawn files questions cex story true
said_yes drawn files questions cex good text story line is tells =
    yes_line drawn files questions cex text story (subst (λ b. IsReplayLine files questions cex b text) is line) tells

-- ---- all of them

pub admitted_none : (files : List File) (questions : List Question) → AreAdmitted files questions []
admitted_none files questions = All-nil (IsAdmitted files questions)

pub admitted_more : (files : List File) (questions : List Question) (cexes : List Counterexample)
    (cex : Counterexample) → AreAdmitted files questions cexes → IsAdmitted files questions cex →
    AreAdmitted files questions (cexes ++ cex ∷ [])
admitted_more files questions cexes cex all one =
    All-append (IsAdmitted files questions) cexes (cex ∷ []) all
    (All-cons (IsAdmitted files questions) cex [] one (All-nil (IsAdmitted files questions)))

pub admitted_at : (files : List File) (questions : List Question) (cexes : List Counterexample) (i : ℕ)
    (cex : Counterexample) → AreAdmitted files questions cexes → i < length cexes → cex ≡ get_or cexes i cex →
    IsAdmitted files questions cex
admitted_at files questions cexes i cex all within is =
    subst (IsAdmitted files questions) (sym is) (All-get_or (IsAdmitted files questions) cexes i cex within all)

-- what is said from a place on makes what is said of all
abbrev pub Goes : Bool → List File → List Question → List Counterexample → ℕ → List ℕ → Bool → Type 0
Goes drawn files questions cexes i text good = (later : List ℕ) (all : Bool) →
    AreSaid drawn files questions (drop i cexes) later all → AreSaid drawn files questions cexes (text ++ later) (good && all)

and_assoc : (a b c : Bool) → ((a && b) && c) ≡ (a && (b && c))
and_assoc true b c = refl
and_assoc false b c = refl

pub goes_none : (drawn : Bool) (files : List File) (questions : List Question) (cexes : List Counterexample) →
    Goes drawn files questions cexes 0 [] true
goes_none drawn files questions cexes later all said = said

pub goes_more : (drawn : Bool) (files : List File) (questions : List Question) (cexes : List Counterexample) (i : ℕ)
    (cex : Counterexample) (text one now : List ℕ) (good is_true : Bool) → i < length cexes →
    cex ≡ get_or cexes i cex → IsSaid drawn files questions cex one is_true → now ≡ text ++ one →
    Goes drawn files questions cexes i text good → Goes drawn files questions cexes (i + 1) now (good && is_true)
unfolding AreSaid
goes_more drawn files questions cexes i cex text one now good is_true within is said more so_far later all rest =
    let here : AreSaid drawn files questions (drop i cexes) (one ++ later) (is_true && all) =
    subst (λ l. AreSaid drawn files questions l (one ++ later) (is_true && all)) (sym (drop-read cexes i cex within is))
    (one, later, is_true, all, said, refl, refl, rest) in
    subst (λ t. AreSaid drawn files questions cexes t ((good && is_true) && all))
    (sym (append_assoc text one later) ∙ ap (λ t. t ++ later) (sym more))
    (subst (AreSaid drawn files questions cexes (text ++ (one ++ later))) (sym (and_assoc good is_true all))
    (so_far (one ++ later) (is_true && all) here))

pub goes_all : (drawn : Bool) (files : List File) (questions : List Question) (cexes : List Counterexample) (i : ℕ) (text : List ℕ)
    (good : Bool) → length cexes ≤ i → Goes drawn files questions cexes i text good →
    AreSaid drawn files questions cexes text good
unfolding AreSaid
goes_all drawn files questions cexes i text good done so_far =
    subst (λ t. AreSaid drawn files questions cexes t good) (append-nil text)
    (subst (AreSaid drawn files questions cexes (text ++ [])) (and-true good)
    (so_far [] true (subst (λ l. AreSaid drawn files questions l [] true) (sym (drop_all i cexes done)) (refl, refl))))

-- one more was said
pub next_is : (drawn : Bool) (files : List File) (questions : List Question) (cex : Counterexample) (old new : Said)
    (text : List ℕ) (good : Bool) → IsSaid drawn files questions cex text good → new.text ≡ old.text ++ text →
    new.yes ≡ (old.yes && good) → IsNext drawn files questions cex old new
next_is drawn files questions cex old new text good said more both = (text, good, said, more, both)

pub goes_next : (drawn : Bool) (files : List File) (questions : List Question) (cexes : List Counterexample) (i : ℕ)
    (cex : Counterexample) (old new : Said) → i < length cexes → cex ≡ get_or cexes i cex →
    IsNext drawn files questions cex old new → Goes drawn files questions cexes i old.text old.yes →
    Goes drawn files questions cexes (i + 1) new.text new.yes
goes_next drawn files questions cexes i cex old new within is (text, good, said, more, both) so_far =
    subst (Goes drawn files questions cexes (i + 1) new.text) (sym both)
    (goes_more drawn files questions cexes i cex old.text text new.text old.yes good within is said more so_far)

-- ---- what is printed

pub told_none : (drawn : Bool) (files : List File) (questions : List Question) (cexes : List Counterexample) (text : List ℕ) →
    cexes ≡ [] → text ≡ none_text → AreTold drawn files questions cexes text Good
told_none drawn files questions cexes text none is =
    subst (λ l. AreTold drawn files questions l text Good) (sym none) (is, refl)

pub told_some : (drawn : Bool) (files : List File) (questions : List Question) (cexes : List Counterexample) (text : List ℕ)
    (good : Bool) (status : Status) → 0 < length cexes → AreSaid drawn files questions cexes text good →
    status ≡ status_of good → AreTold drawn files questions cexes text status
told_some drawn files questions [] text good status some said is = absurd (omega (arith, some))
told_some drawn files questions (cex ∷ rest) text good status some said is = (good, said, is)
