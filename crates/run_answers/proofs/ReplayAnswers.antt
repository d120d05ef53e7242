-- What a replay answers, and what stands of it.
use Rattle.std.proofs.Common.{◌≡◌, ◌≢◌, ℕ, ◌<◌, Bool, true, false, List, length, get_or, Option, Some, None, Result}
use Rattle.std.proofs.Common.{Ok, Err, refl, sym, subst, ◌∙◌, inr}
use Rattle.std.specs.Prelude.{IfOk, is_none}
use Rattle.std.proofs.lemmas.Bool.{false≢true}
use Rattle.std.proofs.lemmas.Option.{get_or_from_slice_get, slice_get_within}
use Rattle.mw_outside.specs.Taken.{Takes, TakesPart}
use Rattle.ios_ast.specs.declared.file.File.{File}
use Rattle.question_lang.specs.declared.question.Question.{Question}
use Rattle.cex_json.specs.declared.counterexample.Counterexample.{Counterexample}
use Rattle.stable_replay.specs.declared.differs.ReplayNo.{ReplayNo}
use Rattle.stable_replay.specs.declared.differs.ReplayNo.TheVariants as no
use Rattle.stable_replay.specs.Replayed.{IsRefusedSo, IsReplayed}
use Rattle.run_inputs.specs.Loading.{IsAdmitted}
use Rattle.run_answers.specs.declared.status.Status.{Status}
use Rattle.run_answers.specs.declared.status.Status.TheVariants.{Good, Bad}
use Rattle.run_answers.specs.Replays.{AnswersReplay, IsReplayedSo, IsReplayLine, replay_status, replay_text}
use Rattle.run_answers.specs.Running.{IsReplayBegun}

-- the place of the question is one of the list
pub admitted_within : (files : List File) (questions : List Question) (cex : Counterexample) →
    IsAdmitted files questions cex → cex.question < length questions
admitted_within files questions cex ready = slice_get_within questions cex.question ready.question ready.asked

-- yes
pub replay_yes : (files : List File) (questions : List Question) (cex : Counterexample) (question : Question) →
    IsAdmitted files questions cex → question ≡ get_or questions cex.question question →
    IsReplayed files question cex → AnswersReplay files questions cex None
replay_yes files questions cex question ready is replayed =
    let same = is ∙ get_or_from_slice_get questions cex.question ready.question question ready.asked in
    let P : Question → Type 0 = λ q. IsReplayed files q cex in
    let told = subst P same replayed in (
      ready.question,
      ready.asked,
      (
        refl,
        record {
          packet = ready.packet;
          environment_fits = ready.environment;
          failures = ready.failures;
          stable = told.0;
          breaks = told.1;
        },
      ),
    )

-- no
pub replay_no : (files : List File) (questions : List Question) (cex : Counterexample) (question : Question)
    (why : ReplayNo) → IsAdmitted files questions cex → question ≡ get_or questions cex.question question →
    why ≢ no.Memory → IsRefusedSo files question cex why → (IsReplayed files question cex → ⊥) →
    AnswersReplay files questions cex (Some why)
replay_no files questions cex question why ready is other refused untrue =
    let same = is ∙ get_or_from_slice_get questions cex.question ready.question question ready.asked in
    let P : Question → Type 0 = λ q. IsRefusedSo files q cex why in
    let Q : Question → Type 0 = λ q. IsReplayed files q cex → ⊥ in
    let never = subst Q same untrue in (
      ready.question,
      ready.asked,
      (
        subst P same refused,
        other,
        λ breaking. never (
          breaking.1.stable,
          breaking.1.breaks,
        ),
      ),
    )

-- no, where memory was not wanting
pub replay_told : {E : Type 0} (result : Result (Option ReplayNo) E) (files : List File) (questions : List Question)
    (cex : Counterexample) (question : Question) (why : ReplayNo) →
    IfOk result (λ answer. (answer ≡ Some why) × (why ≢ no.Memory)) → IsAdmitted files questions cex →
    question ≡ get_or questions cex.question question → IsRefusedSo files question cex why →
    (why ≢ no.Memory → IsReplayed files question cex → ⊥) → IfOk result (AnswersReplay files questions cex)
replay_told (Err e) files questions cex question why told ready is refused untrue = tt
replay_told (Ok answer) files questions cex question why told ready is refused untrue =
    let P : Option ReplayNo → Type 0 = AnswersReplay files questions cex in
    subst P (sym told.0) (replay_no files questions cex question why ready is told.1 refused (untrue told.1))

status_yes : (answer : Option ReplayNo) → true ≡ is_none answer → Good ≡ replay_status answer
status_yes None is = refl
status_yes (Some why) is = absurd (false≢true (sym is))

status_no : (answer : Option ReplayNo) → false ≡ is_none answer → Bad ≡ replay_status answer
status_no None is = absurd (false≢true is)
status_no (Some why) is = refl

-- the line stands
pub replayed_yes : (files : List File) (questions : List Question) (cex : Counterexample) (is_yes : Bool) (text : List
    ℕ)
    (before now : Option (List ℕ)) → IsReplayLine files questions cex is_yes text → is_yes ≡ true → Takes before now
    text →
    IsReplayedSo files questions cex Good before now
replayed_yes files questions cex is_yes text before now (answer, right, told, is) said takes =
    let T : List ℕ → Type 0 = Takes before now in
    record { answer = answer; right = right; ends = status_yes answer (sym said ∙ told); text = subst T is takes }

pub replayed_no : (files : List File) (questions : List Question) (cex : Counterexample) (is_yes : Bool) (text : List ℕ)
    (before now : Option (List ℕ)) → IsReplayLine files questions cex is_yes text → is_yes ≡ false → Takes before now
    text →
    IsReplayedSo files questions cex Bad before now
replayed_no files questions cex is_yes text before now (answer, right, told, is) said takes =
    let T : List ℕ → Type 0 = Takes before now in
    record { answer = answer; right = right; ends = status_no answer (sym said ∙ told); text = subst T is takes }

-- a front of the line stands
pub replayed_cut : (files : List File) (questions : List Question) (cex : Counterexample) (is_yes : Bool) (text : List
    ℕ)
    (before now : Option (List ℕ)) → IsReplayLine files questions cex is_yes text → TakesPart before now text →
    IsReplayBegun files questions cex before now
replayed_cut files questions cex is_yes text before now (answer, right, told, is) part =
    (text, inr (answer, right, is), part)
