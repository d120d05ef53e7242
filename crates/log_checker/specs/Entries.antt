-- What one entry, and one line, does to a section.
use Rattle.std.specs.Prelude.{◌≡◌, ◌≢◌, ℕ, ◌++◌, ◌∷◌, false, true, List, [], Some}
use Rattle.resolution_check.specs.declared.log.Clause.{Clause}
use Rattle.resolution_check.specs.declared.log.Entry.{Entry}
use Rattle.resolution_check.specs.declared.log.Entry.TheVariants.{Input, End}
use Rattle.resolution_check.specs.Entries.{adds_empty, fault_of, is_end}
use Rattle.resolution_check.specs.Known.{HasRead, Known}
use Rattle.resolution_check.specs.Text.{HasText, text_of}
use Rattle.log_checker.specs.declared.cause.Cause.{Cause}
use Rattle.log_checker.specs.declared.cause.Cause.TheVariants.{BadLine, InputDiffers, Refused, NotRefuted, Missing}
use Rattle.log_checker.specs.declared.entries.Step.{Step}
use Rattle.log_checker.specs.declared.entries.Step.TheVariants.{Goes, Ends, Wrong}
use Rattle.log_checker.specs.Sections.{IsInputOf, clause_numbered}

-- one entry more was read
abbrev pub ReadsMore : Known → Known → Entry → Type 0
ReadsMore old new e = (es : List Entry) → HasRead old es → HasRead new (es ++ e ∷ [])

-- what is wrong with an entry other than the end
abbrev pub IsWrongEntry : List Clause → Known → Entry → Cause → Type 0
IsWrongEntry clauses known e BadLine = ⊥
IsWrongEntry clauses known e (InputDiffers wanted) =
    (id : ℕ) × (clause : Clause) × (e ≡ Input id clause) × (wanted ≡ clause_numbered clauses id)
    × (wanted ≢ Some clause)
IsWrongEntry clauses known e (Refused bad) =
    IsInputOf clauses e × ((es : List Entry) → HasRead known es → fault_of es e ≡ Some bad)
IsWrongEntry clauses known e NotRefuted = ⊥
IsWrongEntry clauses known e Missing = ⊥

-- what an entry other than the end does
abbrev pub TakesEntry : List Clause → Known → Known → Entry → Step → Type 0
TakesEntry clauses old new e Goes = IsInputOf clauses e × ReadsMore old new e
TakesEntry clauses old new e Ends = ⊥
TakesEntry clauses old new e (Wrong cause) = IsWrongEntry clauses old e cause

-- what is wrong with a line that is ended
abbrev pub IsWrongLine : List Clause → Known → List ℕ → Cause → Type 0
IsWrongLine clauses known line BadLine = (e : Entry) → HasText e → line ≢ text_of e
IsWrongLine clauses known line (InputDiffers wanted) =
    (e : Entry) × HasText e × (line ≡ text_of e) × IsWrongEntry clauses known e (InputDiffers wanted)
IsWrongLine clauses known line (Refused bad) =
    (e : Entry) × HasText e × (line ≡ text_of e) × (is_end e ≡ false) × IsWrongEntry clauses known e (Refused bad)
IsWrongLine clauses known line NotRefuted =
    (line ≡ text_of End) × ((es : List Entry) → HasRead known es → adds_empty es ≡ false)
IsWrongLine clauses known line Missing = ⊥

-- what a line does: its entry goes on, or ends a section that adds the empty clause; or it is wrong
abbrev pub TakesLine : List Clause → Known → Known → List ℕ → Step → Type 0
TakesLine clauses old new line Goes =
    (e : Entry) × HasText e × (line ≡ text_of e) × (is_end e ≡ false) × IsInputOf clauses e × ReadsMore old new e
TakesLine clauses old new line Ends =
    (line ≡ text_of End) × ((es : List Entry) → HasRead old es → adds_empty es ≡ true)
TakesLine clauses old new line (Wrong cause) = IsWrongLine clauses old line cause
