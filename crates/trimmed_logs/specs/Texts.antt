-- The text of a trimmed log.
use Rattle.std.specs.Prelude.{◌≡◌, List, [], ◌∷◌, ◌++◌, ℕ}
use Rattle.resolution_check.specs.declared.log.Entry.{Entry}
use Rattle.resolution_check.specs.declared.log.Entry.TheVariants.{End}
use Rattle.resolution_check.specs.Entries.{Refutes}
use Rattle.resolution_check.specs.Text.{log_text}
use Rattle.log_checker.specs.Sections.{opening_text}
use Rattle.trimmed_logs.specs.Logs.{Section}
use Rattle.trimmed_logs.specs.Trimmed.{IsTrimmed}

-- the list is the trimmed form of the section's, with its end, and refutes
pub record IsTrimmedOf (s : Section) (trimmed : List Entry) : Type 0 where
  pub form : IsTrimmed (s.entries ++ End ∷ []) trimmed
  pub refutes : Refutes trimmed

-- the text has for each section in turn the same opening line, and the lines of a trimmed form
abbrev pub AreTrimmed : List Section → List ℕ → Type 0
AreTrimmed [] text = text ≡ []
AreTrimmed (s ∷ ss) text =
    (trimmed : List Entry) × (rest : List ℕ) × IsTrimmedOf s trimmed
    × (text ≡ opening_text s.name ++ log_text trimmed ++ rest) × AreTrimmed ss rest
