-- The tests of a walk, one standing at a time.
use Rattle.std.specs.Prelude.{◌≡◌, ℕ, List, Some, Contains}
use Rattle.question_lang.specs.declared.question.Start.{Start}
use Rattle.question_lang.specs.declared.walk.Hop.{Hop}
use Rattle.question_lang.specs.declared.walk.Hop.TheVariants.{To}

-- one of these hops leads in at the interface of the standing
abbrev pub LeadsIn : List Hop → Start → Type 0
LeadsIn own to = (at : ℕ) × (to.iface ≡ Some at) × Contains own (To (record { router = to.router; at = at }))
