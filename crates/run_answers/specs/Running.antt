-- What a run prints and logs.
use Rattle.std.specs.Prelude.{◌≡◌, ◌⊎◌, ℕ, List, [], take, slice_get, IfSome, Option, None, Some}
use Rattle.std.specs.List.{last_or}
use Rattle.mw_outside.specs.Taken.{Takes, TakesPart}
use Rattle.ios_ast.specs.declared.file.File.{File}
use Rattle.question_lang.specs.declared.question.Question.{Question}
use Rattle.cex_json.specs.declared.counterexample.Counterexample.{Counterexample}
use Rattle.resolution_check.specs.declared.log.Entry.{Entry}
use Rattle.cdcl_search.specs.Turns.{TellBumps}
use Rattle.stable_replay.specs.declared.differs.ReplayNo.{ReplayNo}
use Rattle.run_inputs.specs.Due.{Outcome, usage, unread, refused, answering, replaying, checking, simulating, generating}
use Rattle.run_inputs.specs.Texts.{usage_text}
use Rattle.run_answers.specs.declared.status.Status.{Status}
use Rattle.run_answers.specs.declared.status.Status.TheVariants.{Good, Bad, Unknown, Usage, Refused, ReadFault}
use Rattle.run_answers.specs.declared.status.Status.TheVariants.{WriteFault, Memory}
use Rattle.run_answers.specs.Checks.{IsCheckBegun, IsCheckedSo}
use Rattle.run_answers.specs.Lines.{size_text}
use Rattle.run_answers.specs.Replays.{AnswersReplay, IsReplayedSo, replay_text}
use Rattle.run_answers.specs.Simulations.{IsSimulatedSo, IsSimulationBegun}
use Rattle.run_answers.specs.Verdicts.{Answer, AreRight, IsSearched, answers_text, opening_text, section_text}
use Rattle.run_answers.specs.Verdicts.{sections_text, status_of}

-- each decider that tells its bumps tells those of the section of the last answer, if there is one
abbrev pub TellLast : List (Option (List ℕ)) → List Answer → Type 0
TellLast tolds answers = IfSome (last_or None answers) (λ last. TellBumps tolds last.section)

-- right answers to all questions: the status is theirs, their whole text and their sections stand, and deciders tell the
-- bumps of the last section
pub record AreAnswered (files : List File) (questions : List Question) (budget : ℕ) (status : Status)
    (before now logged_before logged_now : Option (List ℕ)) (tolds : List (Option (List ℕ))) : Type 0 where
  pub answers : List Answer
  pub right : AreRight files budget 0 questions answers
  pub ends : status ≡ status_of answers
  pub text : Takes before now (answers_text files questions questions answers)
  pub logged : Takes logged_before logged_now (sections_text questions answers)
  pub bumps : TellLast tolds answers

-- the same, after the line of the size of a ring
pub record AreSized (routers : ℕ) (files : List File) (questions : List Question) (budget : ℕ) (status : Status)
    (before now logged_before logged_now : Option (List ℕ)) (tolds : List (Option (List ℕ))) : Type 0 where
  pub sized : Option (List ℕ)
  pub size : Takes before sized (size_text routers)
  pub answered : AreAnswered files questions budget status sized now logged_before logged_now tolds

-- what is due is answered: all questions, or the replay, the check of a log or the simulation, of which nothing is logged
abbrev pub IsAnswered : Outcome → Status → Option (List ℕ) → Option (List ℕ) → Option (List ℕ) → Option (List ℕ) →
    List (Option (List ℕ)) → Type 0
IsAnswered (answering files questions budget) status before now logged_before logged_now tolds =
    AreAnswered files questions budget status before now logged_before logged_now tolds
IsAnswered (replaying files questions cex) status before now logged_before logged_now tolds =
    IsReplayedSo files questions cex status before now × (logged_now ≡ logged_before)
IsAnswered (generating routers files questions budget) status before now logged_before logged_now tolds =
    AreSized routers files questions budget status before now logged_before logged_now tolds
IsAnswered (checking files questions log) status before now logged_before logged_now tolds =
    IsCheckedSo files questions log.name log.bytes status before now × (logged_now ≡ logged_before)
IsAnswered (simulating files last) status before now logged_before logged_now tolds =
    IsSimulatedSo files last status before now × (logged_now ≡ logged_before)
IsAnswered usage status before now logged_before logged_now tolds = ⊥
IsAnswered unread status before now logged_before logged_now tolds = ⊥
IsAnswered (refused line) status before now logged_before logged_now tolds = ⊥

-- what a search for an answer may leave in the log where it ends early: a front of the line that opens its section,
-- or of a section
abbrev pub IsSectionOf : List File → ℕ → Question → List ℕ → Type 0
IsSectionOf files budget question text =
    (text ≡ opening_text question)
    ⊎ ((entries : List Entry) × IsSearched files question budget entries × (text ≡ section_text question entries))

-- what may stand in the log after the sections of so many answers: nothing, or what a search for the next answer left
abbrev pub IsBegun : List File → ℕ → List Question → ℕ → List ℕ → Type 0
IsBegun files budget questions count text =
    (text ≡ []) ⊎ ((question : Question) × (slice_get questions count ≡ Some question)
    × IsSectionOf files budget question text)

-- a run that ended early: right answers to the first questions. A front of their lines is printed; their sections stand
-- whole in the log, and after them a front of what may stand there
pub record AreBegun (files : List File) (questions : List Question) (budget : ℕ)
    (before now logged_before logged_now : Option (List ℕ)) : Type 0 where
  pub count : ℕ
  pub answers : List Answer
  pub right : AreRight files budget 0 (take count questions) answers
  pub text : TakesPart before now (answers_text files questions (take count questions) answers)
  pub middle : Option (List ℕ)
  pub logged : Takes logged_before middle (sections_text (take count questions) answers)
  pub next : List ℕ
  pub begun : IsBegun files budget questions count next
  pub part : TakesPart middle logged_now next

-- a front of the answer of a replay, where there was one
abbrev pub IsReplayBegun : List File → List Question → Counterexample → Option (List ℕ) → Option (List ℕ) → Type 0
IsReplayBegun files questions cex before now =
    (text : List ℕ)
    × ((text ≡ [])
    ⊎ ((answer : Option ReplayNo) × AnswersReplay files questions cex answer × (text ≡ replay_text files answer)))
    × TakesPart before now text

-- a run over a ring that ended early: a front of the line of its size, or after that what stands of the answers
abbrev pub IsSizeBegun : ℕ → List File → List Question → ℕ → Option (List ℕ) → Option (List ℕ) → Option (List ℕ)
    → Option (List ℕ) → Type 0
IsSizeBegun routers files questions budget before now logged_before logged_now =
    (TakesPart before now (size_text routers) × (logged_now ≡ logged_before))
    ⊎ ((sized : Option (List ℕ)) × Takes before sized (size_text routers)
    × AreBegun files questions budget sized now logged_before logged_now)

-- what stands when a run ends early: a front of the line that is due, or of right answers to the first questions with
-- their sections, or of the answer of a replay, about a log or of a simulation
abbrev pub Stands : Outcome → Option (List ℕ) → Option (List ℕ) → Option (List ℕ) → Option (List ℕ) → Type 0
Stands usage before now logged_before logged_now = TakesPart before now usage_text × (logged_now ≡ logged_before)
Stands unread before now logged_before logged_now = (now ≡ before) × (logged_now ≡ logged_before)
Stands (refused line) before now logged_before logged_now = TakesPart before now line × (logged_now ≡ logged_before)
Stands (answering files questions budget) before now logged_before logged_now =
    AreBegun files questions budget before now logged_before logged_now
Stands (replaying files questions cex) before now logged_before logged_now =
    IsReplayBegun files questions cex before now × (logged_now ≡ logged_before)
Stands (checking files questions log) before now logged_before logged_now =
    IsCheckBegun files questions log.name log.bytes before now × (logged_now ≡ logged_before)
Stands (simulating files last) before now logged_before logged_now =
    IsSimulationBegun files last before now × (logged_now ≡ logged_before)
Stands (generating routers files questions budget) before now logged_before logged_now =
    IsSizeBegun routers files questions budget before now logged_before logged_now

-- P where all questions were answered
abbrev pub OnAnswered : Status → Type 0 → Type 0
OnAnswered Good P = P
OnAnswered Bad P = P
OnAnswered Unknown P = P
OnAnswered Usage P = Unit {0}
OnAnswered Refused P = Unit {0}
OnAnswered ReadFault P = Unit {0}
OnAnswered WriteFault P = Unit {0}
OnAnswered Memory P = Unit {0}

-- P where the run ended early
abbrev pub OnCut : Status → Type 0 → Type 0
OnCut Good P = Unit {0}
OnCut Bad P = Unit {0}
OnCut Unknown P = Unit {0}
OnCut Usage P = Unit {0}
OnCut Refused P = Unit {0}
OnCut ReadFault P = Unit {0}
OnCut WriteFault P = P
OnCut Memory P = P

-- P where the run ended before any answer
abbrev pub OnUnanswered : Status → Type 0 → Type 0
OnUnanswered Good P = Unit {0}
OnUnanswered Bad P = Unit {0}
OnUnanswered Unknown P = Unit {0}
OnUnanswered Usage P = P
OnUnanswered Refused P = P
OnUnanswered ReadFault P = P
OnUnanswered WriteFault P = Unit {0}
OnUnanswered Memory P = Unit {0}

-- how answers end: all of them, with their text and their sections; or early
abbrev pub AnswersSo : Outcome → Status → Option (List ℕ) → Option (List ℕ) → Option (List ℕ) → Option (List ℕ)
    → List (Option (List ℕ)) → Type 0 → Type 0
AnswersSo outcome Good before now logged_before logged_now tolds rose =
    IsAnswered outcome Good before now logged_before logged_now tolds
AnswersSo outcome Bad before now logged_before logged_now tolds rose =
    IsAnswered outcome Bad before now logged_before logged_now tolds
AnswersSo outcome Unknown before now logged_before logged_now tolds rose =
    IsAnswered outcome Unknown before now logged_before logged_now tolds
AnswersSo outcome WriteFault before now logged_before logged_now tolds rose =
    Stands outcome before now logged_before logged_now × rose
AnswersSo outcome Memory before now logged_before logged_now tolds rose =
    Stands outcome before now logged_before logged_now
AnswersSo outcome Usage before now logged_before logged_now tolds rose = ⊥
AnswersSo outcome Refused before now logged_before logged_now tolds rose = ⊥
AnswersSo outcome ReadFault before now logged_before logged_now tolds rose = ⊥
