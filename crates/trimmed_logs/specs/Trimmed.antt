-- When a list of entries is the trimmed form of another.
use Rattle.std.specs.Prelude.{◌≡◌, ℕ, ◌+◌, ◌==◌, ⊤, Bool, true, false, List, [], ◌∷◌, ◌++◌, filter, map}
use Rattle.std.specs.List.{list_any}
use Rattle.resolution_check.specs.declared.log.Entry.{Entry}
use Rattle.resolution_check.specs.declared.log.Entry.TheVariants.{Input, Add, Delete, End}
use Rattle.resolution_check.specs.Entries.{adds_empty, is_refutation}

-- ---- entries by their kinds

abbrev pub is_input : Entry → Bool
is_input (Input id clause) = true
is_input (Add id clause chain) = false
is_input (Delete id) = false
is_input End = false

abbrev pub is_addition : Entry → Bool
is_addition (Input id clause) = false
is_addition (Add id clause chain) = true
is_addition (Delete id) = false
is_addition End = false

-- the inputs and the additions of a list, in their order
abbrev pub input_entries : List Entry → List Entry
input_entries es = filter is_input es

abbrev pub addition_entries : List Entry → List Entry
addition_entries es = filter is_addition es

-- ---- numbers

-- the numbers that are given are this one, the next, and so on
abbrev pub IsNumberedFrom : ℕ → List Entry → Type 0
IsNumberedFrom next [] = ⊤
IsNumberedFrom next (Input id clause ∷ es) = (id ≡ next) × IsNumberedFrom (next + 1) es
IsNumberedFrom next (Add id clause chain ∷ es) = (id ≡ next) × IsNumberedFrom (next + 1) es
IsNumberedFrom next (Delete id ∷ es) = IsNumberedFrom next es
IsNumberedFrom next (End ∷ es) = IsNumberedFrom next es

-- the inputs stand first, with numbers from 1 upwards
pub record HasInputsFirst (es : List Entry) : Type 0 where
  pub others : List Entry
  pub first : es ≡ input_entries es ++ others
  pub none : list_any is_input others ≡ false
  pub numbered : IsNumberedFrom 1 (input_entries es)

-- the entry with other numbers for the clauses that it speaks of
abbrev pub renamed : (ℕ → ℕ) → Entry → Entry
renamed name (Input id clause) = Input (name id) clause
renamed name (Add id clause chain) = Add (name id) clause (map name chain)
renamed name (Delete id) = Delete (name id)
renamed name End = End

-- ---- what stays

-- the first list has some entries of the second, in their order
pub data IsSublist : List Entry → List Entry → Type 0 where
  none : IsSublist [] []
  with_first : {e : Entry} {some all : List Entry} → IsSublist some all → IsSublist (e ∷ some) (e ∷ all)
  without_first : {e : Entry} {some all : List Entry} → IsSublist some all → IsSublist some (e ∷ all)

-- whether the number stands in the chain of the entry
abbrev pub uses : ℕ → Entry → Bool
uses id (Input own clause) = false
uses id (Add own clause chain) = list_any (λ other. other == id) chain
uses id (Delete own) = false
uses id End = false

-- whether the entry is an addition that stands in the chain of one of these
abbrev pub is_used_by : List Entry → Entry → Bool
is_used_by later (Input id clause) = false
is_used_by later (Add id clause chain) = list_any (uses id) later
is_used_by later (Delete id) = false
is_used_by later End = false

-- each entry is an addition that stands in the chain of a later one, after all of which the last stands
abbrev pub AreUsed : List Entry → Entry → Type 0
AreUsed [] last = ⊤
AreUsed (e ∷ es) last = (is_used_by (es ++ last ∷ []) e ≡ true) × AreUsed es last

-- The trimmed list has the inputs of the given one with their numbers, in their order; then some of its additions, in
-- their order, under other numbers, in their chains too; then the end. Its numbers are 1, 2, 3 and so on. The last
-- addition is empty and no other is, and each other stands in the chain of a later one.
pub record IsTrimmed (given trimmed : List Entry) : Type 0 where
  pub name : ℕ → ℕ
  pub front : List Entry
  pub last : Entry
  pub some : IsSublist (front ++ last ∷ []) (addition_entries given)
  pub parts : trimmed ≡ input_entries given ++ (map (renamed name) (front ++ last ∷ []) ++ End ∷ [])
  pub same_inputs : map (renamed name) (input_entries given) ≡ input_entries given
  pub numbered : IsNumberedFrom 1 trimmed
  pub empty : is_refutation last ≡ true
  pub no_other : adds_empty front ≡ false
  pub used : AreUsed (map (renamed name) front) (renamed name last)
