-- A section of a log, held against a name and clauses: when it shows that no assignment satisfies the clauses, and
-- what is wrong with it first where it does not.
use Rattle.std.specs.Prelude.{◌≡◌, ◌≢◌, ◌⊎◌, ℕ, suc, zero, ◌+◌, true, false, ⊤, List, [], ◌∷◌, ◌++◌, length, codes}
use Rattle.std.specs.Prelude.{Option, Some, None, slice_get}
use Rattle.std.specs.List.{AllByRecursion}
use Rattle.resolution_check.specs.declared.log.Clause.{Clause}
use Rattle.resolution_check.specs.declared.log.Entry.{Entry}
use Rattle.resolution_check.specs.declared.log.Entry.TheVariants.{Input, Add, Delete, End}
use Rattle.resolution_check.specs.Entries.{IsGood, adds_empty, fault_of, has_ended, is_end}
use Rattle.resolution_check.specs.Text.{HasText, line_of, log_text}
use Rattle.log_checker.specs.declared.cause.Cause.{Cause}
use Rattle.log_checker.specs.declared.cause.Cause.TheVariants.{BadLine, InputDiffers, Refused, NotRefuted, Missing}

-- the clause of that number, where the first has number 1
abbrev pub clause_numbered : List Clause → ℕ → Option Clause
clause_numbered clauses zero = None
clause_numbered clauses (suc at) = slice_get clauses at

-- an input is, literal by literal, the clause of its number
abbrev pub IsInputOf : List Clause → Entry → Type 0
IsInputOf clauses (Input id clause) = clause_numbered clauses id ≡ Some clause
IsInputOf clauses (Add id clause chain) = ⊤
IsInputOf clauses (Delete id) = ⊤
IsInputOf clauses End = ⊤

-- what a section holds before its end: good entries, none of them the end, each with a text, whose inputs are clauses
pub record IsOpen (clauses : List Clause) (entries : List Entry) : Type 0 where
  pub good : IsGood entries
  pub goes_on : has_ended entries ≡ false
  pub texts : AllByRecursion HasText entries
  pub inputs : AllByRecursion (IsInputOf clauses) entries

-- a whole section of a log that refutes the clauses: the empty clause is added
pub record IsRefuting (clauses : List Clause) (entries : List Entry) : Type 0 where
  pub front : IsOpen clauses entries
  pub empty : adds_empty entries ≡ true

-- the line that opens the section of that name
abbrev pub opening_text : List ℕ → List ℕ
opening_text name = codes "q " ++ (name ++ 10 ∷ [])

-- ---- what is wrong first

-- what is wrong with the line at which these bytes begin, after the entries
abbrev pub IsWrong : List Clause → List Entry → List ℕ → Cause → Type 0
IsWrong clauses entries rest BadLine =
    (rest ≢ []) × ((e : Entry) (more : List ℕ) → HasText e → rest ≢ line_of e ++ more)
IsWrong clauses entries rest (InputDiffers wanted) =
    (id : ℕ) × (clause : Clause) × (more : List ℕ) × HasText (Input id clause)
    × (rest ≡ line_of (Input id clause) ++ more) × (wanted ≡ clause_numbered clauses id) × (wanted ≢ Some clause)
IsWrong clauses entries rest (Refused bad) =
    (e : Entry) × (more : List ℕ) × HasText e × (rest ≡ line_of e ++ more) × (is_end e ≡ false) × IsInputOf clauses e
    × (fault_of entries e ≡ Some bad)
IsWrong clauses entries rest NotRefuted =
    (more : List ℕ) × (rest ≡ line_of End ++ more) × (adds_empty entries ≡ false)
IsWrong clauses entries rest Missing = rest ≡ []

-- what is wrong with the line at which these bytes begin, where the section of that name is to be opened
abbrev pub IsUnopened : List ℕ → List ℕ → Cause → Type 0
IsUnopened name rest BadLine = (rest ≢ []) × ((more : List ℕ) → rest ≢ opening_text name ++ more)
IsUnopened name rest (InputDiffers wanted) = ⊥
IsUnopened name rest (Refused bad) = ⊥
IsUnopened name rest NotRefuted = ⊥
IsUnopened name rest Missing = rest ≡ []

-- what is wrong where no line feed comes: there is no line, or it is not ended
abbrev pub unended_cause : List ℕ → Cause
unended_cause [] = Missing
unended_cause (b ∷ bs) = BadLine

-- after the opening the bytes begin with so many lines of the section that are right, and then this is wrong
abbrev pub IsWrongWithin : List Clause → List ℕ → ℕ → Cause → Type 0
IsWrongWithin clauses bytes lines cause =
    (entries : List Entry) × (rest : List ℕ) × IsOpen clauses entries × (lines ≡ length entries)
    × (bytes ≡ log_text entries ++ rest) × IsWrong clauses entries rest cause

-- after the opening the bytes begin with the rest of a section, so many lines, that refutes the clauses
abbrev pub IsEndedBefore : List Clause → List ℕ → ℕ → List ℕ → Type 0
IsEndedBefore clauses bytes lines rest =
    (entries : List Entry) × IsRefuting clauses entries × (lines ≡ length entries + 1)
    × (bytes ≡ log_text (entries ++ End ∷ []) ++ rest)

-- ---- with the opening

-- the bytes begin with so many lines of the section that are right, and then this is wrong
abbrev pub IsWrongAfter : List ℕ → List Clause → List ℕ → ℕ → Cause → Type 0
IsWrongAfter name clauses bytes lines cause =
    ((lines ≡ 0) × IsUnopened name bytes cause)
    ⊎ ((body : List ℕ) × (within : ℕ) × (bytes ≡ opening_text name ++ body) × (lines ≡ within + 1)
    × IsWrongWithin clauses body within cause)

-- the bytes begin with a whole section, of so many lines, that refutes the clauses
abbrev pub IsShownBefore : List ℕ → List Clause → List ℕ → ℕ → List ℕ → Type 0
IsShownBefore name clauses bytes lines rest =
    (body : List ℕ) × (within : ℕ) × (bytes ≡ opening_text name ++ body) × (lines ≡ within + 1)
    × IsEndedBefore clauses body within rest
