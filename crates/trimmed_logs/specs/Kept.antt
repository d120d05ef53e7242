-- Which additions stay, and their new numbers.
use Rattle.std.specs.Prelude.{◌≡◌, ℕ, ◌+◌, ◌==◌, Bool, if◌then◌else◌, List, [], ◌∷◌, ◌++◌, map, length, Option, reverse, unwrap_or}
use Rattle.std.specs.List.{list_any}
use Rattle.resolution_check.specs.declared.log.Entry.{Entry}
use Rattle.resolution_check.specs.declared.log.Entry.TheVariants.{Input, Add, Delete, End}
use Rattle.trimmed_logs.specs.Trimmed.{input_entries, is_used_by, uses}

-- the additions that stay before the last one: each that stands in the chain of a later one that stays
unfoldable pub kept : Entry → List Entry → List Entry
kept last [] = []
kept last (e ∷ es) = if is_used_by (kept last es ++ last ∷ []) e then e ∷ kept last es else kept last es

-- the marks are the numbers in the chains of what stays of these and the last one, and it was found from behind
pub record IsFound (marks : ℕ → Bool) (found : List Entry) (last : Entry) (es : List Entry) : Type 0 where
  pub marked : (id : ℕ) → marks id ≡ list_any (uses id) (kept last es ++ last ∷ [])
  pub order : found ≡ reverse (kept last es ++ last ∷ [])

-- the new name of a number, where there is one, else the number
abbrev pub named : (ℕ → Option ℕ) → ℕ → ℕ
named new id = unwrap_or (new id) id

-- one name more
abbrev pub with_name : (ℕ → ℕ) → ℕ → ℕ → ℕ → ℕ
with_name names id new other = if id == other then new else names other

-- additions under this number, the next and so on, where the chains of each name those before it so
unfoldable pub numbered : ℕ → (ℕ → ℕ) → List Entry → List Entry
numbered next names [] = []
numbered next names (Input id clause ∷ es) = numbered next names es
numbered next names (Add id clause chain ∷ es) =
    Add next clause (map names chain) ∷ numbered (next + 1) (with_name names id next) es
numbered next names (Delete id ∷ es) = numbered next names es
numbered next names (End ∷ es) = numbered next names es

-- the inputs of the entries, what stays of the additions before the last one, under new numbers, the last one, and the end
abbrev pub trimmed_of : (entries before : List Entry) → Entry → List Entry
trimmed_of entries before last =
    let first = input_entries entries in
    first ++ (numbered (length first + 1) (λ id. id) (kept last before ++ last ∷ []) ++ End ∷ [])
