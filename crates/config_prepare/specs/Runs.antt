-- What a run answers.
use Rattle.std.specs.Prelude.{ℕ, ◌≡◌, ◌⊎◌, Bool, false, List, [], ◌∷◌, ◌++◌, codes, Option, Some, None}
use Rattle.std.specs.Prelude.{if◌then◌else◌}
use Rattle.mw_text.specs.Text.{same_text}
use Rattle.mw_outside.specs.Faults.{Rose}
use Rattle.mw_outside.specs.Taken.{Takes, TakesPart}
use Rattle.mw_outside.specs.declared.whole.ReadRefused.{ReadRefused}
use Rattle.mw_outside.specs.declared.whole.ReadRefused.TheVariants.{Failed, TooLong}
use Rattle.mw_outside.specs.declared.whole.ReadRefused.TheVariants as read
use Rattle.config_prepare.specs.declared.run.Prepared.{Prepared}
use Rattle.config_prepare.specs.declared.run.Status.{Status}
use Rattle.config_prepare.specs.declared.run.Status.TheVariants.{Done, Usage, Refused, ReadFault, WriteFault, Memory}
use Rattle.config_prepare.specs.Places.{marks_in}
use Rattle.config_prepare.specs.Prepared.{prepared, report, table_text}

-- the exit status
abbrev pub number_of : Status → ℕ
number_of Done = 0
number_of Usage = 3
number_of Refused = 4
number_of ReadFault = 5
number_of WriteFault = 6
number_of Memory = 7

-- what is made of these bytes, and what is said of it
pub record IsReady (bytes : List ℕ) (it : Prepared) : Type 0 where
  pub text : it.text ≡ prepared bytes
  pub said : it.report ≡ report (marks_in bytes)

-- two words, which are names
abbrev pub names_in : List (List ℕ) → Option (List ℕ × List ℕ)
names_in (from ∷ to ∷ []) = Some (from, to)
names_in _ = None

-- the one word `--table`
abbrev pub asks_table : List (List ℕ) → Bool
asks_table (word ∷ []) = same_text word (codes "--table")
asks_table _ = false

abbrev pub usage_text : List ℕ
usage_text = codes "usage: mw_prepare IN OUT, or mw_prepare --table\n"

-- the line of a file that is too long
abbrev pub too_long_text : List ℕ → List ℕ
too_long_text name = codes "refused " ++ name ++ codes ":0 25 TooLong\n"

-- a text was written and the run ends so, or a write failed, and a front of it stands
abbrev pub Puts : Option (List ℕ) → Option (List ℕ) → ℕ → ℕ → List ℕ → Status → Status → Type 0
Puts before now faults later text status ended =
    ((ended ≡ status) × Takes before now text × (later ≡ faults))
    ⊎ ((ended ≡ WriteFault) × TakesPart before now text × Rose faults later)

-- nothing was written
abbrev pub PutsNothing : Option (List ℕ) → Option (List ℕ) → ℕ → ℕ → Type 0
PutsNothing before now faults later = (now ≡ before) × (later ≡ faults)

-- the end of a run whose file was not read
abbrev pub PutsRefusal : Option (List ℕ) → Option (List ℕ) → ℕ → ℕ → List ℕ → ReadRefused → Status → Type 0
PutsRefusal before now faults later name Failed ended = (ended ≡ ReadFault) × PutsNothing before now faults later
PutsRefusal before now faults later name TooLong ended =
    Puts before now faults later (too_long_text name) Refused ended
    ⊎ ((ended ≡ Memory) × PutsNothing before now faults later)
PutsRefusal before now faults later name read.Memory ended = (ended ≡ Memory) × PutsNothing before now faults later

-- what is written where the words are no two names, and how the run ends
abbrev pub PutsOther : Option (List ℕ) → Option (List ℕ) → ℕ → ℕ → List (List ℕ) → Status → Type 0
PutsOther before now faults later words ended =
    Puts before now faults later (if asks_table words then table_text else usage_text)
    (if asks_table words then Done else Usage) ended
    ⊎ ((ended ≡ Memory) × PutsNothing before now faults later)
