-- What a list of words reads as.
use Rattle.std.specs.Prelude.{ℕ, ◌≡◌, ◌⊎◌, ◌-◌, ◌^◌, ◌==◌, ◌&&◌, not, nat_le, if◌then◌else◌, List, [], ◌∷◌}
use Rattle.std.specs.Prelude.{slice_index, Option, Some, None, Result, Ok, Err, option_map, codes, Bool, true, false}
use Rattle.std.specs.Borrow.{Bor}
use Rattle.std.specs.List.{slice_split}
use Rattle.std.specs.Option.{option_and_then, option_map_or}
use Rattle.mw_text.specs.Digits.{is_numeral, value_of}
use Rattle.mw_text.specs.Text.{same_text}
use Rattle.resolution_check.specs.declared.log.Lit.{Lit}
use Rattle.resolution_check.specs.declared.log.LineRefused.{LineRefused}
use Rattle.resolution_check.specs.declared.log.LineRefused.TheVariants.{BadLine, Memory}
use Rattle.resolution_check.specs.declared.log.Entry.{Entry}
use Rattle.resolution_check.specs.declared.log.Entry.TheVariants.{Input, Add, Delete, End}

abbrev pub is_space : ℕ → Bool
is_space b = b == 32

-- the words of a text, which single spaces separate
abbrev pub words_in : List ℕ → List (List ℕ)
words_in text = slice_split is_space text

-- the words of what is left, if anything is left
abbrev pub words_left : Option (Bor (List ℕ)) → List (List ℕ)
words_left rest = option_map_or (λ text. words_in text.now) rest []

-- the number that the word writes: 1 to 19 digits, no leading zero, at most 2^63
abbrev pub number_in : List ℕ → Option ℕ
number_in word =
    if is_numeral 19 word && (not (slice_index word 0 == 48) && nat_le (value_of word) (2 ^ 63)) then Some
    (value_of word) else None

abbrev pub lit_with : Bool → ℕ → Lit
lit_with negated n = record { var = n - 1; negated = negated }

-- the literal that the word writes
abbrev pub lit_in : List ℕ → Option Lit
lit_in [] = None
lit_in (b ∷ word) =
    if b == 45 then option_map (lit_with true) (number_in word) else option_map (lit_with false) (number_in (b ∷ word))

-- what the words up to the first "0" read as, and the words after it
abbrev pub list_in : {A : Type 0} → (List ℕ → Option A) → List (List ℕ) → Option (List A × List (List ℕ))
list_in read [] = None
list_in read (word ∷ words) =
    if same_text word (codes "0") then Some ([], words)
    else option_and_then (λ x. option_map (λ found. (x ∷ found.0, found.1)) (list_in read words)) (read word)

-- the value, where no word is left
abbrev pub finished : {A : Type 0} → List (List ℕ) → A → Option A
finished [] x = Some x
finished (word ∷ words) x = None

abbrev pub input_in : ℕ → List (List ℕ) → Option Entry
input_in id words =
    option_and_then (λ lits. finished lits.1 (Input id (record { lits = lits.0 }))) (list_in lit_in words)

abbrev pub addition_in : ℕ → List (List ℕ) → Option Entry
addition_in id words =
    option_and_then (λ lits. option_and_then (λ ids. finished ids.1 (Add id (record { lits = lits.0 }) ids.0))
    (list_in number_in lits.1)) (list_in lit_in words)

-- by the first word, after the number
abbrev pub entry_with : List ℕ → ℕ → List (List ℕ) → Option Entry
entry_with kind id words =
    if same_text kind (codes "i") then input_in id words
    else if same_text kind (codes "a") then addition_in id words
    else if same_text kind (codes "d") then finished words (Delete id)
    else None

-- the entry that the words write
abbrev pub entry_in : List (List ℕ) → Option Entry
entry_in [] = None
entry_in (kind ∷ []) = if same_text kind (codes "e") then Some End else None
entry_in (kind ∷ number ∷ words) = option_and_then (λ id. entry_with kind id words) (number_in number)

-- an outcome of reading what reads so: the value, or a bad line where there is none; or memory was refused
abbrev pub ReadsAs : {A B : Type 0} → (A → B) → Result A LineRefused → Option B → Type 0
ReadsAs shown (Ok x) answer = answer ≡ Some (shown x)
ReadsAs shown (Err refusal) answer = (refusal ≡ Memory) ⊎ ((refusal ≡ BadLine) × (answer ≡ None))
