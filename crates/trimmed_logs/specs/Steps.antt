-- What a line does to an open section.
use Rattle.std.specs.Prelude.{◌≡◌, ℕ, ◌+◌, true, List, [], ◌∷◌, ◌++◌, Some, None, Ok, Err}
use Rattle.resolution_check.specs.declared.log.Entry.{Entry}
use Rattle.resolution_check.specs.declared.log.Entry.TheVariants.{End}
use Rattle.std.specs.List.{AllByRecursion}
use Rattle.resolution_check.specs.Entries.{Refutes, adds_empty}
use Rattle.resolution_check.specs.Text.{HasText, log_text}
use Rattle.log_checker.specs.Lines.{pieces}
use Rattle.log_checker.specs.Sections.{opening_text}
use Rattle.log_checker.specs.declared.cause.Cause.{Cause}
use Rattle.trimmed_logs.specs.declared.sections.Step.{Step}
use Rattle.trimmed_logs.specs.declared.sections.Step.TheVariants.{Goes, Ends, Wrong}
use Rattle.trimmed_logs.specs.Logs.{Section, Taken, read_pieces, take_inner}
use Rattle.trimmed_logs.specs.Texts.{IsTrimmedOf}
use Rattle.trimmed_logs.specs.Trimmed.{HasInputsFirst}

-- the open section with these entries, after so many lines and whole sections
abbrev pub opened : ℕ → List Section → List ℕ → List Entry → Taken
opened lines sections name entries = record {
  lines = lines;
  sections = sections;
  open_one = Some (record { name = name; entries = entries });
}

-- after the section was ended
abbrev pub closed : ℕ → List Section → List ℕ → List Entry → Taken
closed lines sections name entries = record {
  lines = lines;
  sections = sections ++ record { name = name; entries = entries } ∷ [];
  open_one = None;
}

-- the line, taken inside a section of these entries: they go on as new ones, the section ends, or the line is wrong
abbrev pub TakesInner : (old new : List Entry) → List ℕ → Step → Type 0
TakesInner old new line Goes =
    (lines : ℕ) (sections : List Section) (name : List ℕ) →
    take_inner (opened lines sections name old) (record { name = name; entries = old }) line
    ≡ Ok (opened (lines + 1) sections name new)
TakesInner old new line Ends =
    (new ≡ old) × (adds_empty old ≡ true) × ((lines : ℕ) (sections : List Section) (name : List ℕ) →
    take_inner (opened lines sections name old) (record { name = name; entries = old }) line
    ≡ Ok (closed (lines + 1) sections name old))
TakesInner old new line (Wrong cause) =
    (lines : ℕ) (sections : List Section) (name : List ℕ) →
    take_inner (opened lines sections name old) (record { name = name; entries = old }) line
    ≡ Err (record { line = lines + 1; cause = cause })

-- ---- a section

-- the pieces of the bytes come, from an open section without entries, to this
abbrev pub WithinGoes : (bytes rest : List ℕ) → (lines : ℕ) → List Entry → Type 0
WithinGoes bytes rest lines entries =
    (at : ℕ) (sections : List Section) (name : List ℕ) → read_pieces (opened at sections name []) (pieces bytes)
    ≡ read_pieces (opened (at + lines) sections name entries) (pieces rest)

abbrev pub WithinEnds : (bytes rest : List ℕ) → (lines : ℕ) → List Entry → Type 0
WithinEnds bytes rest lines entries =
    (at : ℕ) (sections : List Section) (name : List ℕ) → read_pieces (opened at sections name []) (pieces bytes)
    ≡ read_pieces (closed (at + lines) sections name entries) (pieces rest)

abbrev pub WithinWrong : List ℕ → ℕ → Cause → Type 0
WithinWrong bytes lines cause =
    (at : ℕ) (sections : List Section) (name : List ℕ) → read_pieces (opened at sections name []) (pieces bytes)
    ≡ Err (record { line = at + lines + 1; cause = cause })

-- a section whose entries, with its end, can be trimmed
pub record IsWhole (entries : List Entry) : Type 0 where
  pub refutes : Refutes (entries ++ End ∷ [])
  pub first : HasInputsFirst (entries ++ End ∷ [])
  pub texts : AllByRecursion HasText entries

-- where a section must open
abbrev pub between : ℕ → List Section → Taken
between lines sections = record { lines = lines; sections = sections; open_one = None }

-- the bytes begin with this section, of so many lines, and then the rest comes
abbrev pub IsSectionBefore : (bytes rest : List ℕ) → (lines : ℕ) → Section → Type 0
IsSectionBefore bytes rest lines s =
    (at : ℕ) (sections : List Section) → read_pieces (between at sections) (pieces bytes)
    ≡ read_pieces (between (at + lines) (sections ++ s ∷ [])) (pieces rest)

abbrev pub IsWrongBehind : List ℕ → ℕ → Cause → Type 0
IsWrongBehind bytes lines cause =
    (at : ℕ) (sections : List Section) → read_pieces (between at sections) (pieces bytes)
    ≡ Err (record { line = at + lines + 1; cause = cause })

-- the section with which the bytes begin was trimmed, and the trimmed text was appended
pub record IsAppended (bytes rest : List ℕ) (lines : ℕ) (old new : List ℕ) : Type 0 where
  pub section : Section
  pub trimmed : List Entry
  pub goes : IsSectionBefore bytes rest lines section
  pub form : IsTrimmedOf section trimmed
  pub text : new ≡ old ++ (opening_text section.name ++ log_text trimmed)
