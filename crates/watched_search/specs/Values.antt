-- Values that a trail gives.
use Rattle.std.specs.Prelude.{ℕ, ◌≡◌, Bool, Some, List}
use Rattle.resolution_check.specs.declared.log.Lit.{Lit}
use Rattle.resolution_check.specs.Trails.{value_of}

-- each variable that has a value has this one
abbrev pub AgreesWith : List Lit → (ℕ → Bool) → Type 0
AgreesWith steps f = (var : ℕ) (b : Bool) → value_of steps var ≡ Some b → f var ≡ b
