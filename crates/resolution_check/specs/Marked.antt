-- Which literals a set of marks has.
use Rattle.std.specs.Prelude.{◌≡◌, ◌⊎◌, Bool, if◌then◌else◌, List, Result, Ok, Err}
use Rattle.std.specs.Ordering.{nat_cmp}
use Rattle.std.specs.BTreeSet.{contains}
use Rattle.resolution_check.specs.declared.log.Lit.{Lit}
use Rattle.resolution_check.specs.declared.marks.Marks.{Marks}
use Rattle.resolution_check.specs.declared.log.Bad.{Bad}
use Rattle.resolution_check.specs.declared.log.Bad.TheVariants.{Memory}
use Rattle.resolution_check.specs.Clauses.{has}

-- whether the literal is in the set
abbrev pub marked : Marks → Lit → Bool
marked m l = if l.negated then contains nat_cmp m.negative l.var else contains nat_cmp m.positive l.var

-- the set has exactly the literals of the clause
abbrev pub Shows : Marks → List Lit → Type 0
Shows m c = (l : Lit) → marked m l ≡ has c l

-- the outcome is this one, and the set then has the resolvent; or memory was refused
abbrev pub Resolves : {U : Type 0} → Marks → Result U Bad → Result (List Lit) Bad → Type 0
Resolves m (Ok done) (Ok r) = Shows m r
Resolves m (Ok done) (Err bad) = ⊥
Resolves m (Err bad) answer = (bad ≡ Memory) ⊎ (answer ≡ Err bad)

-- the outcome is this one, as the set of the resolvent's literals; or memory was refused
abbrev pub IsShown : Result Marks Bad → Result (List Lit) Bad → Type 0
IsShown (Ok m) (Ok r) = Shows m r
IsShown (Ok m) (Err bad) = ⊥
IsShown (Err bad) answer = (bad ≡ Memory) ⊎ (answer ≡ Err bad)
