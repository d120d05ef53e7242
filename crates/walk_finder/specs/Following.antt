-- Walks that follow rows.
use Rattle.std.specs.Prelude.{◌≡◌, ◌⊎◌, ℕ, List, [], ◌∷◌, Some, slice_get}
use Rattle.question_lang.specs.declared.question.Start.{Start}
use Rattle.question_lang.specs.declared.walk.End.{End}
use Rattle.question_lang.specs.declared.walk.End.TheVariants.{Loop}
use Rattle.question_lang.specs.declared.walk.Hop.{Hop}
use Rattle.question_lang.specs.declared.walk.Walk.{Walk}
use Rattle.question_lang.specs.Walks.{GoesOn}
use Rattle.walk_def.specs.Arriving.{LastIn}
use Rattle.walk_finder.specs.declared.rows.Row.{Row}
use Rattle.walk_finder.specs.Rows.{AreRowsOf}

-- the walk goes on from the start over the hops of these rows
pub record Follows (rows : List Row) (start : Start) (walk : Walk) : Type 0 where
  pub goes : (hops : ℕ → List Hop) → AreRowsOf hops rows → GoesOn hops [] walk.hops walk.end
  pub begins : (rest : List Start) × (walk.hops ≡ start ∷ rest)

-- the row of the router has that end
abbrev pub HasEnd : List Row → End → ℕ → Type 0
HasEnd rows end router = (row : Row) × (slice_get rows router ≡ Some row) × (row.end ≡ Some end)

-- it does, to an end of a row
pub record Arrives (rows : List Row) (start : Start) (walk : Walk) : Type 0 where
  pub follows : Follows rows start walk
  pub last : LastIn (HasEnd rows walk.end) walk.hops

-- it does, or it comes back to where it stood
abbrev pub EndsOrLoops : List Row → Start → Walk → Type 0
EndsOrLoops rows start walk = Arrives rows start walk ⊎ (Follows rows start walk × (walk.end ≡ Loop))
