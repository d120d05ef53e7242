-- What a run of the program answers.
use Rattle.std.specs.Prelude.{ℕ, ◌≡◌, ◌⊎◌, List, [], ◌∷◌, codes, Option, Ok, Err, IfSome}
use Rattle.mw_text.specs.Reading.{each}
use Rattle.mw_outside.specs.Contents.{Contents}
use Rattle.mw_outside.specs.Taken.{Takes, TakesPart}
use Rattle.run_inputs.specs.declared.text.Text.{Text}
use Rattle.run_inputs.specs.Due.{refused, text_of}
use Rattle.config_prepare.specs.declared.run.Status.{Status}
use Rattle.config_prepare.specs.declared.run.Status.TheVariants.{Usage, Refused}
use Rattle.config_lint.specs.declared.labels.Entry.{Entry}
use Rattle.config_lint.specs.Linted.{AreEntries, linted_status, linted_text}

abbrev pub usage_text : List ℕ
usage_text = codes "usage: mw_lint CONFIG...\n"

-- the text and the status of these texts: that of their refusals
pub record IsOfTexts (texts : List Text) (text : List ℕ) (status : Status) : Type 0 where
  pub entries : List Entry
  pub listed : AreEntries texts entries
  pub text_is : text ≡ linted_text texts entries
  pub status_is : status ≡ linted_status texts entries

-- what is printed for files of these names, and the status: the refusals of their texts, or where a file is too long the
-- line that says so
abbrev pub IsOfNames : Option Contents → List (List ℕ) → List ℕ → Status → Type 0
IsOfNames contents names text status =
    ((texts : List Text) × IfSome contents (λ files. each (text_of files) names ≡ Ok texts)
    × IsOfTexts texts text status)
    ⊎ (IfSome contents (λ files. each (text_of files) names ≡ Err (refused text)) × (status ≡ Refused))

-- what is printed for these words
abbrev pub IsDue : Option Contents → List (List ℕ) → List ℕ → Status → Type 0
IsDue contents [] text status = (text ≡ usage_text) × (status ≡ Usage)
IsDue contents (name ∷ names) text status = IsOfNames contents (name ∷ names) text status

-- that text stands
abbrev pub Due : Option Contents → List (List ℕ) → Option (List ℕ) → Option (List ℕ) → Status → Type 0
Due contents words before now status = (text : List ℕ) × IsDue contents words text status × Takes before now text

-- a front of it stands
abbrev pub Front : Option Contents → List (List ℕ) → Option (List ℕ) → Option (List ℕ) → Type 0
Front contents words before now =
    (text : List ℕ) × (status : Status) × IsDue contents words text status × TakesPart before now text
