-- Lists of entries: which numbers are given, which clauses are held, what a chain resolves to, and
-- which lists are good.
use Rattle.std.specs.Prelude.{ℕ, ◌≡◌, ◌+◌, Bool, true, false, ◌==◌, if◌then◌else◌, ⊤, List, [], ◌∷◌, ◌++◌, Option}
use Rattle.std.specs.Prelude.{Some, None, Result, Ok, Err, IsSome, is_some, sum_by, filter_map}
use Rattle.std.specs.Option.{option_or, option_map_or, ok_or}
use Rattle.std.specs.List.{list_any, list_all}
use Rattle.resolution_check.specs.declared.log.Lit.{Lit}
use Rattle.resolution_check.specs.declared.log.Clause.{Clause}
use Rattle.resolution_check.specs.declared.log.Entry.{Entry}
use Rattle.resolution_check.specs.declared.log.Entry.TheVariants.{Input, Add, Delete, End}
use Rattle.resolution_check.specs.declared.log.Bad.{Bad}
use Rattle.resolution_check.specs.declared.log.Bad.TheVariants.{UnknownId, NoPivot, NotCovered, UsedId, AfterEnd}
use Rattle.resolution_check.specs.Clauses.{resolvent, is_inside}

-- ---- one entry

-- the clause that the entry gives under this number
abbrev pub clause_by : ℕ → Entry → Option Clause
clause_by id (Input own clause) = if own == id then Some clause else None
clause_by id (Add own clause chain) = if own == id then Some clause else None
clause_by id (Delete own) = None
clause_by id End = None

-- whether the entry gives this number
abbrev pub gives : ℕ → Entry → Bool
gives id e = is_some (clause_by id e)

-- whether the entry deletes this number
abbrev pub deletes : ℕ → Entry → Bool
deletes id (Input own clause) = false
deletes id (Add own clause chain) = false
deletes id (Delete own) = own == id
deletes id End = false

abbrev pub is_end : Entry → Bool
is_end (Input id clause) = false
is_end (Add id clause chain) = false
is_end (Delete id) = false
is_end End = true

-- how many additions the entry is
abbrev pub additions_in : Entry → ℕ
additions_in (Input id clause) = 0
additions_in (Add id clause chain) = 1
additions_in (Delete id) = 0
additions_in End = 0

abbrev pub is_empty : List Lit → Bool
is_empty [] = true
is_empty (l ∷ ls) = false

-- whether the entry adds the empty clause
abbrev pub is_refutation : Entry → Bool
is_refutation (Input id clause) = false
is_refutation (Add id clause chain) = is_empty clause.lits
is_refutation (Delete id) = false
is_refutation End = false

abbrev pub input_of : Entry → Option Clause
input_of (Input id clause) = Some clause
input_of (Add id clause chain) = None
input_of (Delete id) = None
input_of End = None

-- ---- a list of entries

-- the clause given under a number, deleted or not
abbrev pub clause_given : List Entry → ℕ → Option Clause
clause_given [] id = None
clause_given (e ∷ es) id = option_or (clause_by id e) (clause_given es id)

abbrev pub is_given : List Entry → ℕ → Bool
is_given es id = is_some (clause_given es id)

abbrev pub is_deleted : List Entry → ℕ → Bool
is_deleted es id = list_any (deletes id) es

-- held are the inputs and additions whose numbers are not deleted
abbrev pub clause_held : List Entry → ℕ → Option Clause
clause_held es id = if is_deleted es id then None else clause_given es id

abbrev pub has_ended : List Entry → Bool
has_ended es = list_any is_end es

-- whether the empty clause was added
abbrev pub adds_empty : List Entry → Bool
adds_empty es = list_any is_refutation es

-- how many additions there are
abbrev pub addition_count : List Entry → ℕ
addition_count es = sum_by additions_in es

-- the clauses that were given as inputs
abbrev pub inputs : List Entry → List Clause
inputs es = filter_map input_of es

-- ---- a chain, by the clauses that are held

abbrev pub and_then : Result (List Lit) Bad → (List Lit → Result (List Lit) Bad) → Result (List Lit) Bad
and_then (Ok r) go = go r
and_then (Err bad) go = Err bad

-- the resolvent of r with the clause of this number, which stands at this place of the chain
abbrev pub resolved_next : (ℕ → Option Clause) → List Lit → ℕ → ℕ → Result (List Lit) Bad
resolved_next held r at id = option_map_or (λ c. ok_or (resolvent r c.lits) (NoPivot at)) (held id) (Err (UnknownId id))

-- r resolved with the clauses of these numbers, one after another, or the first fault
abbrev pub resolved_from : (ℕ → Option Clause) → List Lit → ℕ → List ℕ → Result (List Lit) Bad
resolved_from held r at [] = Ok r
resolved_from held r at (id ∷ ids) = and_then (resolved_next held r at id) (λ s. resolved_from held s (at + 1) ids)

-- the last resolvent of a chain, which is resolved from its front, or the first fault
abbrev pub resolved : (ℕ → Option Clause) → List ℕ → Result (List Lit) Bad
resolved held [] = Err (NoPivot 0)
resolved held (id ∷ ids) = option_map_or (λ c. resolved_from held c.lits 1 ids) (held id) (Err (UnknownId id))

-- ---- the causes of refusal, in the order in which they are tested

abbrev pub cover_fault : List Lit → Result (List Lit) Bad → Option Bad
cover_fault clause (Ok r) = if is_inside r clause then None else Some NotCovered
cover_fault clause (Err bad) = Some bad

-- by whether a number was given, and the clauses that are held
abbrev pub addition_fault : (ℕ → Bool) → (ℕ → Option Clause) → ℕ → List Lit → List ℕ → Option Bad
addition_fault given held id clause chain =
    if given id then Some (UsedId id) else cover_fault clause (resolved held chain)

abbrev pub entry_fault : (ℕ → Bool) → (ℕ → Option Clause) → Entry → Option Bad
entry_fault given held (Input id clause) = if given id then Some (UsedId id) else None
entry_fault given held (Add id clause chain) = addition_fault given held id clause.lits chain
entry_fault given held (Delete id) = if is_some (held id) then None else Some (UnknownId id)
entry_fault given held End = None

-- the first cause to refuse an entry after this list, if there is one
abbrev pub fault_of : List Entry → Entry → Option Bad
fault_of es e = if has_ended es then Some AfterEnd else entry_fault (is_given es) (clause_held es) e

-- ---- good lists

-- a number given is new, a number named is held, a chain has its resolvents, and the last of them is
-- inside the claimed clause
abbrev pub IsSound : List Entry → Entry → Type 0
IsSound es (Input id clause) = is_given es id ≡ false
IsSound es (Add id clause chain) =
    (is_given es id ≡ false) × (r : List Lit) × (resolved (clause_held es) chain ≡ Ok r) ×
    (is_inside r clause.lits ≡ true)
IsSound es (Delete id) = IsSome (clause_held es id)
IsSound es End = ⊤

-- nothing follows End
abbrev pub KeepsGood : List Entry → Entry → Type 0
KeepsGood es e = (has_ended es ≡ false) × IsSound es e

-- each entry of the second list is in the relation to those before it, of which the first list stands in front
abbrev pub EachAfter : (List Entry → Entry → Type 0) → List Entry → List Entry → Type 0
EachAfter P before [] = ⊤
EachAfter P before (e ∷ es) = P before e × EachAfter P (before ++ e ∷ []) es

-- each entry keeps the list of those before it good
abbrev pub IsGood : List Entry → Type 0
IsGood es = EachAfter KeepsGood [] es

-- good, and the empty clause is added
abbrev pub Refutes : List Entry → Type 0
Refutes es = IsGood es × (adds_empty es ≡ true)

-- ---- assignments

-- the value of a literal, of a clause, and whether every clause is true
abbrev pub lit_value : (ℕ → Bool) → Lit → Bool
lit_value v l = if l.negated then (if v l.var then false else true) else v l.var

abbrev pub clause_value : (ℕ → Bool) → List Lit → Bool
clause_value v c = list_any (lit_value v) c

abbrev pub satisfies : (ℕ → Bool) → List Clause → Bool
satisfies v cs = list_all (λ c. clause_value v c.lits) cs

-- no assignment makes every clause true
abbrev pub IsUnsatisfiable : List Clause → Type 0
IsUnsatisfiable cs = (v : ℕ → Bool) → satisfies v cs ≡ false
