-- The text of an entry: its line in the log, without the line feed.
use Rattle.std.specs.Prelude.{ℕ, Bool, ◌==◌, ◌+◌, ◌^◌, ◌<◌, ◌≤◌, if◌then◌else◌, ⊤, List, [], ◌∷◌, ◌++◌, map, codes}
use Rattle.std.specs.List.{AllByRecursion, flat_map, join_with_byte}
use Rattle.std.specs.Fmt.{decimal}
use Rattle.resolution_check.specs.declared.log.Lit.{Lit}
use Rattle.resolution_check.specs.declared.log.Entry.{Entry}
use Rattle.resolution_check.specs.declared.log.Entry.TheVariants.{Input, Add, Delete, End}

-- ---- the four forms

-- a literal is its variable plus 1, behind a minus sign where it is negated
abbrev pub lit_text : Lit → List ℕ
lit_text l = if l.negated then 45 ∷ decimal (l.var + 1) else decimal (l.var + 1)

-- the word that ends a list
abbrev pub zero_text : List ℕ
zero_text = codes "0"

abbrev pub entry_words : Entry → List (List ℕ)
entry_words (Input id clause) = codes "i" ∷ decimal id ∷ (map lit_text clause.lits ++ zero_text ∷ [])
entry_words (Add id clause chain) =
    codes "a" ∷ decimal id ∷ (map lit_text clause.lits ++ zero_text ∷ (map decimal chain ++ zero_text ∷ []))
entry_words (Delete id) = codes "d" ∷ decimal id ∷ []
entry_words End = codes "e" ∷ []

-- the words, with one space between each two
abbrev pub text_of : Entry → List ℕ
text_of e = join_with_byte 32 (entry_words e)

-- ---- which entries have a text

abbrev pub IsNumber : ℕ → Type 0
IsNumber n = (0 < n) × (n ≤ 2 ^ 63)

abbrev pub IsSmall : Lit → Type 0
IsSmall l = l.var < 2 ^ 63

-- numbers are from 1 to 2^63, and variables below 2^63
abbrev pub HasText : Entry → Type 0
HasText (Input id clause) = IsNumber id × AllByRecursion IsSmall clause.lits
HasText (Add id clause chain) = IsNumber id × AllByRecursion IsSmall clause.lits × AllByRecursion IsNumber chain
HasText (Delete id) = IsNumber id
HasText End = ⊤

-- a word behind a space
abbrev pub after_space : List ℕ → List ℕ
after_space word = 32 ∷ word

-- ---- the lines of a log

abbrev pub is_line_feed : ℕ → Bool
is_line_feed b = b == 10

-- an entry's line, ended by a line feed
abbrev pub line_of : Entry → List ℕ
line_of e = text_of e ++ 10 ∷ []

abbrev pub log_text : List Entry → List ℕ
log_text es = flat_map line_of es
