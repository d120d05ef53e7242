-- Which additions a solver may log, and when it may delete: every addition is earned, numbers go
-- upwards, and the list is spaced.
use Rattle.std.specs.Prelude.{ℕ, ◌≡◌, ◌≢◌, ◌⊎◌, ◌+◌, ◌*◌, ◌<◌, ◌≤◌, Bool, true, false, not, ◌&&◌, ◌==◌, if◌then◌else◌}
use Rattle.std.specs.Prelude.{⊤, List, [], ◌∷◌, Some, Ok}
use Rattle.std.specs.List.{list_any}
use Rattle.resolution_check.specs.declared.log.Lit.{Lit}
use Rattle.resolution_check.specs.declared.log.Clause.{Clause}
use Rattle.resolution_check.specs.declared.log.Entry.{Entry}
use Rattle.resolution_check.specs.declared.log.Entry.TheVariants.{Input, Add, Delete, End}
use Rattle.resolution_check.specs.Clauses.{has, is_inside}
use Rattle.resolution_check.specs.Entries.{clause_given, is_given, clause_held, resolved, addition_count, KeepsGood}
use Rattle.resolution_check.specs.Entries.{EachAfter}

-- ---- earned additions

abbrev pub has_var : List Lit → ℕ → Bool
has_var c var = list_any (λ l. l.var == var) c

-- no variable stands twice in the clause as it is written
abbrev pub vars_differ : List Lit → Bool
vars_differ [] = true
vars_differ (l ∷ c) = not (has_var c l.var) && vars_differ c

-- the list stays good, the claimed clause is the last resolvent of its chain and no larger clause, no
-- variable stands twice in it, and it contains no clause that is then held
pub record IsEarnedAddition (es : List Entry) (id : ℕ) (clause : Clause) (chain : List ℕ) : Type 0 where
  pub good : KeepsGood es (Add id clause chain)
  pub exact : (r : List Lit) × (resolved (clause_held es) chain ≡ Ok r) × (is_inside r clause.lits ≡ true)
      × (is_inside clause.lits r ≡ true)
  pub once : vars_differ clause.lits ≡ true
  pub smallest : (other : ℕ) (c : Clause) → clause_held es other ≡ Some c → is_inside c.lits clause.lits ≡ false

abbrev pub IsEarned : List Entry → Entry → Type 0
IsEarned es (Input id clause) = ⊤
IsEarned es (Add id clause chain) = IsEarnedAddition es id clause chain
IsEarned es (Delete id) = ⊤
IsEarned es End = ⊤

-- every addition of the list is earned
abbrev pub AllEarned : List Entry → Type 0
AllEarned es = EachAfter IsEarned [] es

-- ---- numbers go upwards

-- the number is above each that was given before
abbrev pub IsAbove : List Entry → ℕ → Type 0
IsAbove es id = (other : ℕ) → is_given es other ≡ true → other < id

abbrev pub GoesUp : List Entry → Entry → Type 0
GoesUp es (Input id clause) = IsAbove es id
GoesUp es (Add id clause chain) = IsAbove es id
GoesUp es (Delete id) = ⊤
GoesUp es End = ⊤

-- each number given is above those given before
abbrev pub IsAscending : List Entry → Type 0
IsAscending es = EachAfter GoesUp [] es

-- ---- spaced deletions

abbrev pub is_deletion : Entry → Bool
is_deletion (Input id clause) = false
is_deletion (Add id clause chain) = false
is_deletion (Delete id) = true
is_deletion End = false

-- whether the list ends in a deletion, and how many runs of adjacent deletions it has, by whether a
-- deletion stands before it
abbrev pub ends_deleting : Bool → List Entry → Bool
ends_deleting deleting [] = deleting
ends_deleting deleting (e ∷ es) = ends_deleting (is_deletion e) es

abbrev pub run_count : Bool → List Entry → ℕ
run_count deleting [] = 0
run_count deleting (e ∷ es) = (if is_deletion e && not deleting then 1 else 0) + run_count (is_deletion e) es

-- whether the entry gives this number to an input
abbrev pub gives_input : ℕ → Entry → Bool
gives_input id (Input own clause) = own == id
gives_input id (Add own clause chain) = false
gives_input id (Delete own) = false
gives_input id End = false

-- how many literals a clause has, each counted once
abbrev pub lit_count : List Lit → ℕ
lit_count [] = 0
lit_count (l ∷ c) = (if has c l then 0 else 1) + lit_count c

-- no input is deleted, and no clause of one or two literals; the r-th run of adjacent deletions has at
-- least 1,000 r (r + 1) additions before it
pub record MayDelete (es : List Entry) (id : ℕ) : Type 0 where
  pub no_input : list_any (gives_input id) es ≡ false
  pub long : (c : Clause) → clause_given es id ≡ Some c → (lit_count c.lits ≢ 1) × (lit_count c.lits ≢ 2)
  pub apart : (ends_deleting false es ≡ true)
      ⊎ (1000 * (run_count false es + 1) * (run_count false es + 2) ≤ addition_count es)

abbrev pub MayFollow : List Entry → Entry → Type 0
MayFollow es (Input id clause) = ⊤
MayFollow es (Add id clause chain) = ⊤
MayFollow es (Delete id) = MayDelete es id
MayFollow es End = ⊤

abbrev pub IsSpaced : List Entry → Type 0
IsSpaced es = EachAfter MayFollow [] es
