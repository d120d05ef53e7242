-- What a run of the program answers.
use Rattle.std.specs.Prelude.{ℕ, ◌≡◌, ◌≤◌, ◌⊎◌, Bool, false, drop, if◌then◌else◌, length, List, [], ◌∷◌, ◌++◌, codes, Option, Ok, Err, IfSome}
use Rattle.mw_text.specs.Text.{same_text}
use Rattle.mw_outside.specs.Contents.{Contents}
use Rattle.mw_outside.specs.Taken.{Takes, TakesPart}
use Rattle.ios_ast.specs.declared.file.File.{File}
use Rattle.question_lang.specs.declared.question.Question.{Question}
use Rattle.cex_json.specs.declared.counterexample.Counterexample.{Counterexample}
use Rattle.run_inputs.specs.declared.text.Text.{Text}
use Rattle.run_inputs.specs.Due.{refused}
use Rattle.run_inputs.specs.Loading.{AreSmall}
use Rattle.run_inputs.specs.declared.load.TheConstants.{MOST_BYTES, MOST_CEX_BYTES}
use Rattle.run_answers.specs.declared.status.Status.{Status}
use Rattle.run_answers.specs.declared.status.Status.TheVariants.{Refused, Usage}
use Rattle.show_run.specs.Due.{texts_of, told_due}
use Rattle.show_run.specs.Said.{AreTold}

abbrev pub usage_text : List ℕ
usage_text = codes "usage: mw_show [--dot] PRINTED QUESTIONS CONFIG...\n"

-- each text has few enough bytes
abbrev pub FitTexts : List Text → Text → Text → Type 0
FitTexts texts asked told =
    AreSmall texts × (length asked.bytes ≤ MOST_BYTES) × (length told.bytes ≤ MOST_CEX_BYTES)

-- what is printed of these texts, and the status: what is said of the counterexamples, or the first refusal
abbrev pub IsOfTexts : Bool → List Text → Text → Text → List ℕ → Status → Type 0
IsOfTexts drawn texts asked told text status =
    ((files : List File) × (questions : List Question) × (cexes : List Counterexample)
    × (told_due texts asked told ≡ Ok ((files, questions), cexes)) × AreTold drawn files questions cexes text status)
    ⊎ ((told_due texts asked told ≡ Err (refused text)) × (status ≡ Refused))

-- what is printed for files of these names, and the status
abbrev pub IsOfFiles : Bool → Option Contents → List ℕ → List ℕ → List (List ℕ) → List ℕ → Status → Type 0
IsOfFiles drawn contents printed questions names text status =
    ((texts : List Text) × (asked told : Text)
    × IfSome contents (λ files. texts_of files printed questions names ≡ Ok (texts, asked, told))
    × IsOfTexts drawn texts asked told text status)
    ⊎ (IfSome contents (λ files. texts_of files printed questions names ≡ Err (refused text)) × (status ≡ Refused))

-- what is printed for words that name files: what was printed, the questions, and then the configurations
abbrev pub IsDueBy : Bool → Option Contents → List (List ℕ) → List ℕ → Status → Type 0
IsDueBy drawn contents [] text status = (text ≡ usage_text) × (status ≡ Usage)
IsDueBy drawn contents (printed ∷ []) text status = (text ≡ usage_text) × (status ≡ Usage)
IsDueBy drawn contents (printed ∷ questions ∷ []) text status = (text ≡ usage_text) × (status ≡ Usage)
IsDueBy drawn contents (printed ∷ questions ∷ name ∷ names) text status =
    IsOfFiles drawn contents printed questions (name ∷ names) text status

-- the names of the files in the order in which they are read
abbrev pub order_by : List (List ℕ) → List (List ℕ)
order_by [] = []
order_by (printed ∷ []) = []
order_by (printed ∷ questions ∷ []) = []
order_by (printed ∷ questions ∷ name ∷ names) = (name ∷ names) ++ questions ∷ printed ∷ []

-- a graph is drawn where the first word asks for it; the words after it name the files
abbrev pub is_drawn : List (List ℕ) → Bool
is_drawn [] = false
is_drawn (word ∷ rest) = same_text word (codes "--dot")

abbrev pub named : List (List ℕ) → List (List ℕ)
named words = if is_drawn words then drop 1 words else words

abbrev pub in_order : List (List ℕ) → List (List ℕ)
in_order words = order_by (named words)

-- what is printed for these words
abbrev pub IsDue : Option Contents → List (List ℕ) → List ℕ → Status → Type 0
IsDue contents words text status = IsDueBy (is_drawn words) contents (named words) text status

-- that text stands
abbrev pub Due : Option Contents → List (List ℕ) → Option (List ℕ) → Option (List ℕ) → Status → Type 0
Due contents words before now status = (text : List ℕ) × IsDue contents words text status × Takes before now text

-- a front of it stands
abbrev pub Front : Option Contents → List (List ℕ) → Option (List ℕ) → Option (List ℕ) → Type 0
Front contents words before now =
    (text : List ℕ) × (status : Status) × IsDue contents words text status × TakesPart before now text
