-- What is said of counterexamples.
use Rattle.std.specs.Prelude.{◌≡◌, ℕ, ◌&&◌, Bool, true, false, List, [], ◌∷◌, ◌++◌, codes, is_none, All, Option, Some, None}
use Rattle.std.specs.Prelude.{if◌then◌else◌}
use Rattle.ios_ast.specs.declared.file.File.{File}
use Rattle.question_lang.specs.declared.question.Question.{Question}
use Rattle.question_lang.specs.declared.walk.Walk.{Walk}
use Rattle.cex_json.specs.declared.counterexample.Counterexample.{Counterexample}
use Rattle.cex_story.specs.Stories.{IsStory}
use Rattle.stable_replay.specs.declared.differs.ReplayNo.{ReplayNo}
use Rattle.run_inputs.specs.Loading.{IsAdmitted}
use Rattle.show_run.specs.declared.telling.Said.{Said}
use Rattle.run_answers.specs.declared.status.Status.{Status}
use Rattle.run_answers.specs.declared.status.Status.TheVariants.{Good, Bad}
use Rattle.run_answers.specs.Replays.{AnswersReplay, no_text}

-- how a true counterexample is shown: as a story, which tells its walk; or drawn as a graph, of whose text nothing is
-- claimed
abbrev pub IsShown : Bool → List File → Option Walk → List ℕ → Type 0
IsShown true files walk text = Unit {0}
IsShown false files walk text = IsStory files walk text

-- by the answer of `replay`: a true counterexample, whose walk is one by the definition of walks, is shown; of one that is
-- not true the line of `replay` stands
abbrev pub IsSaidBy : Bool → List File → Counterexample → Option ReplayNo → List ℕ → Type 0
IsSaidBy drawn files cex None text = IsShown drawn files cex.walk text
IsSaidBy drawn files cex (Some why) text = text ≡ no_text files why

-- what is said of a counterexample, and whether it is true
abbrev pub IsSaid : Bool → List File → List Question → Counterexample → List ℕ → Bool → Type 0
IsSaid drawn files questions cex text good =
    (answer : Option ReplayNo) × AnswersReplay files questions cex answer × (good ≡ is_none answer)
    × IsSaidBy drawn files cex answer text

-- of one counterexample more
abbrev pub IsNext : Bool → List File → List Question → Counterexample → Said → Said → Type 0
IsNext drawn files questions cex old new =
    (text : List ℕ) × (good : Bool) × IsSaid drawn files questions cex text good × (new.text ≡ old.text ++ text)
    × (new.yes ≡ (old.yes && good))

-- what is said of all, one after another, and whether all are true
unfoldable pub AreSaid : Bool → List File → List Question → List Counterexample → List ℕ → Bool → Type 0
AreSaid drawn files questions [] text good = (text ≡ []) × (good ≡ true)
AreSaid drawn files questions (cex ∷ rest) text good =
    (said later : List ℕ) × (one all : Bool) × IsSaid drawn files questions cex said one × (text ≡ said ++ later)
    × (good ≡ (one && all)) × AreSaid drawn files questions rest later all

abbrev pub none_text : List ℕ
none_text = codes "nothing is broken\n"

abbrev pub status_of : Bool → Status
status_of good = if good then Good else Bad

-- what is printed of these counterexamples, and the status: 0 where all are true
abbrev pub AreTold : Bool → List File → List Question → List Counterexample → List ℕ → Status → Type 0
AreTold drawn files questions [] text status = (text ≡ none_text) × (status ≡ Good)
AreTold drawn files questions (cex ∷ rest) text status =
    (good : Bool) × AreSaid drawn files questions (cex ∷ rest) text good × (status ≡ status_of good)

abbrev pub AreAdmitted : List File → List Question → List Counterexample → Type 0
AreAdmitted files questions cexes = All (IsAdmitted files questions) cexes
