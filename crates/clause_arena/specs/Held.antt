-- The clauses that an arena holds.
use Rattle.std.specs.Prelude.{ℕ, ◌+◌, ◌*◌, ◌/◌, ◌%◌, ◌==◌, if◌then◌else◌, List, [], ◌∷◌, map, take, drop}
use Rattle.std.specs.Prelude.{Option, Some, None}
use Rattle.resolution_check.specs.declared.log.Clause.{Clause}
use Rattle.resolution_check.specs.declared.log.Lit.{Lit}
use Rattle.clause_arena.specs.declared.names.ClauseRef.{ClauseRef}
use Rattle.clause_arena.specs.Links.{word}
use Rattle.mw_text.specs.Members.{In}
use Rattle.clause_arena.specs.Store.{Store}

-- a literal's code
abbrev pub code_of : Lit → ℕ
code_of l = 2 * l.var + (if l.negated then 1 else 0)

-- the literal of a code
abbrev pub lit_of : ℕ → Lit
lit_of code = record { var = code / 2; negated = (code % 2 == 1) }

-- the arena holds a clause under this reference
abbrev pub IsHeld : Store → ClauseRef → Type 0
IsHeld a c = In c.0 a.refs

-- how many literals the clause has
abbrev pub size_of : Store → ClauseRef → ℕ
size_of a c = word a.words c.0

-- the clause's number
abbrev pub number_of : Store → ClauseRef → ℕ
number_of a c = word a.words (c.0 + 1)

-- the code of the clause's literal at a place
abbrev pub code_at : Store → ClauseRef → ℕ → ℕ
code_at a c at = word a.words (c.0 + 4 + at)

-- the clause's literal at a place
abbrev pub lit_at : Store → ClauseRef → ℕ → Lit
lit_at a c at = lit_of (code_at a c at)

-- the clause's literals, in the order of their places
abbrev pub lits_of : Store → ℕ → List Lit
lits_of a r = map lit_of (take (word a.words r) (drop (r + 4) a.words))

-- the clauses held, with their numbers
abbrev pub clauses : Store → List (ℕ × List Lit)
clauses a = map (λ r. (word a.words (r + 1), lits_of a r)) a.refs

-- the clause of a number among these
abbrev pub clause_numbered : List (ℕ × List Lit) → ℕ → Option Clause
clause_numbered [] id = None
clause_numbered (c ∷ cs) id = if c.0 == id then Some (record { lits = c.1 }) else clause_numbered cs id

-- the clause held by a number
abbrev pub held_in : Store → ℕ → Option Clause
held_in a id = clause_numbered (clauses a) id
