-- Clauses as sets, by their numbers, and what a search adds to them.
use Rattle.std.specs.Prelude.{ℕ, ◌≡◌, true, false, List, Option, Some, Ok}
use Rattle.resolution_check.specs.declared.log.Lit.{Lit}
use Rattle.resolution_check.specs.declared.log.Clause.{Clause}
use Rattle.resolution_check.specs.Clauses.{is_inside, IsSameSet}
use Rattle.resolution_check.specs.Entries.{resolved}
use Rattle.resolution_check.specs.Earned.{vars_differ}

-- each clause of the first is one of the second under the same number, with the same literals
abbrev pub GivesSets : (old new : ℕ → Option Clause) → Type 0
GivesSets old new =
    (id : ℕ) (c : Clause) → old id ≡ Some c → (d : Clause) × (new id ≡ Some d) × IsSameSet c.lits d.lits

-- the same clauses under the same numbers, up to the order of literals
pub record AreSameSets (old new : ℕ → Option Clause) : Type 0 where
  pub there : GivesSets old new
  pub back : GivesSets new old

-- The clause is the last resolvent of its chain over what is held, no variable stands twice in it, and it contains no
-- clause that is held.
pub record IsAddition (held : ℕ → Option Clause) (lits : List Lit) (chain : List ℕ) : Type 0 where
  pub clause : List Lit
  pub resolves : resolved held chain ≡ Ok clause
  pub same : IsSameSet clause lits
  pub once : vars_differ lits ≡ true
  pub smallest : (id : ℕ) (c : Clause) → held id ≡ Some c → is_inside c.lits lits ≡ false
