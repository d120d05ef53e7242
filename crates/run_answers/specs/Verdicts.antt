-- Verdicts, and when they are right.
use Rattle.std.specs.Prelude.{◌≡◌, ◌↔◌, ℕ, ◌+◌, ◌<◌, ◌≤◌, Bool, true, false, List, [], ◌∷◌, ◌++◌, codes, Option}
use Rattle.std.specs.Prelude.{if◌then◌else◌}
use Rattle.std.specs.List.{list_any}
use Rattle.term_store.specs.declared.Node.{Node}
use Rattle.term_store.specs.declared.NodeId.{NodeId}
use Rattle.resolution_check.specs.declared.log.Entry.{Entry}
use Rattle.resolution_check.specs.declared.log.Entry.TheVariants.{End}
use Rattle.resolution_check.specs.Entries.{adds_empty, addition_count}
use Rattle.cdcl_search.specs.Outcomes.{IsSearchLog}
use Rattle.resolution_check.specs.Text.{log_text}
use Rattle.cnf_blaster.specs.Cnf.{clauses_of}
use Rattle.cnf_blaster.specs.Meaning.{CanBeTrue}
use Rattle.ios_ast.specs.declared.file.File.{File}
use Rattle.question_lang.specs.Breaking.{IsBreakable, IsUnbroken}
use Rattle.question_lang.specs.declared.question.Question.{Question}
use Rattle.cex_json.specs.declared.counterexample.Counterexample.{Counterexample}
use Rattle.cex_json.specs.Counterexamples.{IsTrueCounterexample}
use Rattle.cex_json.specs.Text.{cex_text}
use Rattle.run_answers.specs.declared.verdict.Verdict.{Verdict}
use Rattle.run_answers.specs.declared.verdict.Verdict.TheVariants.{Holds, Broken, Unknown}
use Rattle.run_answers.specs.declared.status.Status.{Status}
use Rattle.run_answers.specs.declared.status.Status.TheVariants as status
use Rattle.run_inputs.specs.Texts.{newline}
use Rattle.run_answers.specs.Lines.{holds_text, unknown_text}

-- a verdict, and the entries of the section of the log that shows it
pub record Answer : Type 0 where
  pub verdict : Verdict
  pub section : List Entry

-- the verdict is right. What an unknown one is, its section shows
abbrev pub IsRight : List File → ℕ → Question → Verdict → Type 0
IsRight files number question Holds = IsUnbroken files question
IsRight files number question (Broken cex) = IsTrueCounterexample files number question cex
IsRight files number question (Unknown after) = Unit {0}

-- the entries of a search for an answer: the log of a search for the clauses of an encoding, that is of terms of which
-- the root can be true exactly where something breaks the question, with at most so many additions. Such a log gives
-- the clauses as inputs and then only adds and deletes; it is good, every addition is earned, and deletions are spaced
pub record IsSearched (files : List File) (question : Question) (budget : ℕ) (entries : List Entry) : Type 0 where
  pub nodes : List Node
  pub root : NodeId
  pub encodes : CanBeTrue nodes (root ∷ []) ↔ IsBreakable files question
  pub log : IsSearchLog (clauses_of nodes (root ∷ [])) entries
  pub within : addition_count entries ≤ budget

-- which entries show the verdict, where so many additions were allowed: the empty clause is added, or none is empty and
-- there are fewer, or there are as many
abbrev pub ShowsVerdict : ℕ → List Entry → Verdict → Type 0
ShowsVerdict budget entries Holds = adds_empty entries ≡ true
ShowsVerdict budget entries (Broken cex) = (adds_empty entries ≡ false) × (addition_count entries < budget)
ShowsVerdict budget entries (Unknown after) =
    (after ≡ budget) × (adds_empty entries ≡ false) × (addition_count entries ≡ after)

-- the entries are those of a search, and show the verdict
pub record IsSection (files : List File) (question : Question) (budget : ℕ) (verdict : Verdict)
    (entries : List Entry) : Type 0 where
  pub search : IsSearched files question budget entries
  pub shows : ShowsVerdict budget entries verdict

-- the answer to the question of that number is right, and its section shows it
abbrev pub IsAnswer : List File → ℕ → ℕ → Question → Answer → Type 0
IsAnswer files budget number question answer =
    IsRight files number question answer.verdict × IsSection files question budget answer.verdict answer.section

-- the answers are right, in the order of the questions, the first of which has that number
abbrev pub AreRight : List File → ℕ → ℕ → List Question → List Answer → Type 0
AreRight files budget number [] [] = Unit {0}
AreRight files budget number [] (answer ∷ others) = ⊥
AreRight files budget number (question ∷ rest) [] = ⊥
AreRight files budget number (question ∷ rest) (answer ∷ others) =
    IsAnswer files budget number question answer × AreRight files budget (number + 1) rest others

-- the lines of a verdict: broken NAME comes with the counterexample on a line of its own
abbrev pub verdict_text : List File → List Question → Question → Verdict → List ℕ
verdict_text files questions question Holds = holds_text question
verdict_text files questions question (Broken cex) =
    codes "broken " ++ question.name ++ newline ++ cex_text files questions cex ++ newline
verdict_text files questions question (Unknown after) = unknown_text question after

-- the lines of the answers to some of the questions
abbrev pub answers_text : List File → List Question → List Question → List Answer → List ℕ
answers_text files questions [] answers = []
answers_text files questions (question ∷ rest) [] = []
answers_text files questions (question ∷ rest) (answer ∷ others) =
    verdict_text files questions question answer.verdict ++ answers_text files questions rest others

-- the line that opens the section of a question in the log
abbrev pub opening_text : Question → List ℕ
opening_text question = codes "q " ++ question.name ++ newline

-- the section: q NAME, its entries, e
abbrev pub section_text : Question → List Entry → List ℕ
section_text question entries = opening_text question ++ log_text (entries ++ End ∷ [])

abbrev pub sections_text : List Question → List Answer → List ℕ
sections_text [] answers = []
sections_text (question ∷ rest) [] = []
sections_text (question ∷ rest) (answer ∷ others) = section_text question answer.section ++ sections_text rest others

abbrev pub is_broken_verdict : Verdict → Bool
is_broken_verdict Holds = false
is_broken_verdict (Broken cex) = true
is_broken_verdict (Unknown after) = false

abbrev pub is_unknown_verdict : Verdict → Bool
is_unknown_verdict Holds = false
is_unknown_verdict (Broken cex) = false
is_unknown_verdict (Unknown after) = true

abbrev pub is_broken : Answer → Bool
is_broken answer = is_broken_verdict answer.verdict

abbrev pub is_unknown : Answer → Bool
is_unknown answer = is_unknown_verdict answer.verdict

-- how a run of these answers ends
abbrev pub status_of : List Answer → Status
status_of answers =
    if list_any is_broken answers then status.Bad
    else (if list_any is_unknown answers then status.Unknown else status.Good)
