-- Which decider is told of which addition.
use Rattle.std.specs.Prelude.{ℕ, ◌≡◌, ◌≢◌, ◌+◌, ◌/◌, ◌%◌, ◌==◌, ◌<◌, if◌then◌else◌, List, [], ◌∷◌, ◌++◌, length, map}
use Rattle.std.specs.Prelude.{Option, Some, slice_get}
use Rattle.resolution_check.specs.declared.log.Lit.{Lit}
use Rattle.resolution_check.specs.declared.log.Entry.{Entry}
use Rattle.resolution_check.specs.declared.log.Entry.TheVariants.{Input, Add, Delete, End}

-- the variables of a clause, in the order of its literals
abbrev pub vars_of : List Lit → List ℕ
vars_of lits = map (λ l. l.var) lits

-- where there are deciders, each has its turn for 256 additions, one after another
abbrev pub IsTurn : (deciders added turn : ℕ) → Type 0
IsTurn deciders added turn = 0 < deciders → turn ≡ (added / 256) % deciders

-- The bumps that one of so many deciders is told of: the variables of the additions of its turns. So many additions
-- came before the list.
abbrev pub bumps_of : (deciders own added : ℕ) → List Entry → List ℕ
bumps_of deciders own added [] = []
bumps_of deciders own added (Input id clause ∷ es) = bumps_of deciders own added es
bumps_of deciders own added (Add id clause chain ∷ es) =
    (if (added / 256) % deciders == own then vars_of clause.lits else []) ++ bumps_of deciders own (added + 1) es
bumps_of deciders own added (Delete id ∷ es) = bumps_of deciders own added es
bumps_of deciders own added (End ∷ es) = bumps_of deciders own added es

-- each decider that tells its bumps tells those of the additions of its turns, and no more
abbrev pub TellBumps : List (Option (List ℕ)) → List Entry → Type 0
TellBumps tolds es =
    (own : ℕ) (bumps : List ℕ) → slice_get tolds own ≡ Some (Some bumps) → bumps ≡ bumps_of (length tolds) own 0 es

-- no decider tells a bump
abbrev pub AreUntold : List (Option (List ℕ)) → Type 0
AreUntold tolds = (own : ℕ) (bumps : List ℕ) → slice_get tolds own ≡ Some (Some bumps) → bumps ≡ []

-- where bumps are told now, they were told before, and these were appended
abbrev pub TellsMore : (old new : Option (List ℕ)) → List ℕ → Type 0
TellsMore old new vars =
    (bumps : List ℕ) → new ≡ Some bumps → (earlier : List ℕ) × (old ≡ Some earlier) × (bumps ≡ earlier ++ vars)

-- of these deciders the one at a place was told of these variables, and no other of any
pub record TellsAt (old new : List (Option (List ℕ))) (at : ℕ) (vars : List ℕ) : Type 0 where
  pub count : length new ≡ length old
  pub own : (bumps : List ℕ) → slice_get new at ≡ Some (Some bumps)
      → (earlier : List ℕ) × (slice_get old at ≡ Some (Some earlier)) × (bumps ≡ earlier ++ vars)
  pub others : (i : ℕ) → i ≢ at → slice_get new i ≡ slice_get old i
