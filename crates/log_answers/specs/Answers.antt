-- What a log is held against, and when an answer about it is right.
use Rattle.std.specs.Prelude.{◌≡◌, ◌≢◌, ◌↔◌, ◌⊎◌, ℕ, ◌+◌, Bool, true, false, List, [], ◌∷◌, ◌++◌, codes, Option, Some}
use Rattle.std.specs.Prelude.{None}
use Rattle.std.specs.Fmt.{decimal}
use Rattle.std.specs.List.{AllByRecursion, flat_map}
use Rattle.term_store.specs.declared.Node.{Node}
use Rattle.term_store.specs.declared.NodeId.{NodeId}
use Rattle.resolution_check.specs.declared.log.Bad.{Bad}
use Rattle.resolution_check.specs.declared.log.Bad.TheVariants as bad
use Rattle.resolution_check.specs.declared.log.Clause.{Clause}
use Rattle.resolution_check.specs.declared.log.Lit.{Lit}
use Rattle.resolution_check.specs.Text.{lit_text, zero_text}
use Rattle.cnf_blaster.specs.Cnf.{clauses_of}
use Rattle.cnf_blaster.specs.Meaning.{IsSatisfiable}
use Rattle.log_checker.specs.declared.cause.Cause.{Cause}
use Rattle.log_checker.specs.declared.cause.Cause.TheVariants.{BadLine, InputDiffers, Refused, NotRefuted, Missing}
use Rattle.log_checker.specs.Sections.{IsShownBefore, IsWrongAfter}
use Rattle.ios_ast.specs.declared.file.File.{File}
use Rattle.question_lang.specs.Breaking.{IsBreakable, IsUnbroken}
use Rattle.question_lang.specs.declared.question.Question.{Question}
use Rattle.log_answers.specs.declared.answer.LogAnswer.{LogAnswer}
use Rattle.log_answers.specs.declared.answer.LogAnswer.TheVariants.{Yes, No}

-- ---- sections against the clauses of questions

-- the clauses encode the question: they are those of terms, and can be satisfied exactly where something breaks it
pub record IsEncodedBy (files : List File) (question : Question) (clauses : List Clause) : Type 0 where
  pub nodes : List Node
  pub root : NodeId
  pub are : clauses ≡ clauses_of nodes (root ∷ [])
  pub encodes : IsSatisfiable clauses ↔ IsBreakable files question

-- clauses that encode the first questions, one list for each
abbrev pub AreEncodedBy : List File → List Question → List (List Clause) → Type 0
AreEncodedBy files questions [] = Unit {0}
AreEncodedBy files [] (clauses ∷ others) = ⊥
AreEncodedBy files (question ∷ rest) (clauses ∷ others) =
    IsEncodedBy files question clauses × AreEncodedBy files rest others

-- the bytes are the sections of the questions, in their order, and nothing after: each is right, its inputs are literal
-- by literal the clauses of their numbers, and it refutes these clauses
abbrev pub AreShown : List Question → List (List Clause) → List ℕ → Type 0
AreShown [] [] bytes = bytes ≡ []
AreShown [] (clauses ∷ others) bytes = ⊥
AreShown (question ∷ rest) [] bytes = ⊥
AreShown (question ∷ rest) (clauses ∷ others) bytes =
    (lines : ℕ) × (after : List ℕ) × IsShownBefore question.name clauses bytes lines after × AreShown rest others after

-- the bytes begin with so many lines of such sections, and then this is wrong. After the last section no line is right
abbrev pub AreWrongAfter : List Question → List (List Clause) → List ℕ → ℕ → Cause → Type 0
AreWrongAfter [] [] bytes lines cause = (lines ≡ 0) × (bytes ≢ []) × (cause ≡ BadLine)
AreWrongAfter [] (clauses ∷ others) bytes lines cause = ⊥
AreWrongAfter (question ∷ rest) [] bytes lines cause = ⊥
AreWrongAfter (question ∷ rest) (clauses ∷ others) bytes lines cause =
    IsWrongAfter question.name clauses bytes lines cause
    ⊎ ((first more : ℕ) × (after : List ℕ) × IsShownBefore question.name clauses bytes first after
    × (lines ≡ first + more) × AreWrongAfter rest others after more cause)

-- ---- when the answer is right

-- yes comes where the log is the sections of all questions, and then nothing breaks any of them; no comes with the first
-- line that is wrong, and what is wrong with it
abbrev pub IsRightOfLog : List File → List Question → List (List Clause) → List ℕ → LogAnswer → Type 0
IsRightOfLog files questions made log Yes = AreShown questions made log × AllByRecursion (IsUnbroken files) questions
IsRightOfLog files questions made log (No line cause) =
    (lines : ℕ) × (line ≡ lines + 1) × AreWrongAfter questions made log lines cause

-- the same, by some clauses that encode the questions
abbrev pub IsLogAnswer : List File → List Question → List ℕ → LogAnswer → Type 0
IsLogAnswer files questions log answer =
    (made : List (List Clause)) × AreEncodedBy files questions made × IsRightOfLog files questions made log answer

-- ---- its line

-- a literal and a space
abbrev pub lit_word : Lit → List ℕ
lit_word lit = lit_text lit ++ 32 ∷ []

-- the literals of a clause and 0, with one space between each two
abbrev pub clause_text : Clause → List ℕ
clause_text clause = flat_map lit_word clause.lits ++ zero_text

-- the clause that an input should have been, where there is one
abbrev pub wanted_clause_text : Option Clause → List ℕ
wanted_clause_text None = codes "none"
wanted_clause_text (Some clause) = clause_text clause

-- a refusal of the checker by its number and its name
abbrev pub bad_text : Bad → List ℕ
bad_text (bad.UnknownId id) = codes "31 UnknownId"
bad_text (bad.NoPivot at) = codes "32 NoPivot"
bad_text bad.NotCovered = codes "33 NotCovered"
bad_text (bad.UsedId id) = codes "34 UsedId"
bad_text bad.AfterEnd = codes "35 AfterEnd"
bad_text bad.Memory = []

-- what is wrong with a line, by its number and its name
abbrev pub log_cause_text : Cause → List ℕ
log_cause_text BadLine = codes "36 BadLine"
log_cause_text (InputDiffers wanted) = codes "37 InputDiffers " ++ wanted_clause_text wanted
log_cause_text (Refused why) = bad_text why
log_cause_text NotRefuted = codes "38 NotRefuted"
log_cause_text Missing = codes "39 Missing"

-- no FILE:LINE and a space
abbrev pub place_text : List ℕ → ℕ → List ℕ
place_text name line = codes "no " ++ name ++ codes ":" ++ decimal line ++ codes " "

-- yes, or no FILE:LINE NUMBER CAUSE
abbrev pub log_answer_text : List ℕ → LogAnswer → List ℕ
log_answer_text name Yes = codes "yes" ++ 10 ∷ []
log_answer_text name (No line cause) = place_text name line ++ log_cause_text cause ++ 10 ∷ []

abbrev pub is_yes : LogAnswer → Bool
is_yes Yes = true
is_yes (No line cause) = false
