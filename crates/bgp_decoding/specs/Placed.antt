-- What stands at the lengths of a plan, put to all prefix lengths: nothing at a length at which no slice stands.
use Rattle.std.specs.Prelude.{ℕ, List, Option}
use Rattle.plan_places.specs.declared.places.Place.{Place}
use Rattle.plan_places.specs.Places.{places_below, places_of}
use Rattle.plan_places.specs.Plans.{single_plan}
use Rattle.announced_places.specs.Announced.{thing_over}

-- all prefix lengths of so many rows
abbrev pub full_places : ℕ → List Place
full_places rows = places_of single_plan rows

-- what stands at a length of a row, where each of so many rows has one thing at each of these lengths
abbrev pub thing_in : {X : Type 0} → List ℕ → ℕ → List (Option X) → Place → Option X
thing_in lens rows things p = thing_over (places_below lens rows) things p.router p.len
