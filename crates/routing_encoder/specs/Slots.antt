-- What stands at the places of a formula.
use Rattle.std.specs.Prelude.{List, [], ◌∷◌}
use Rattle.plan_places.specs.declared.places.Place.{Place}

-- what follows from what is open at some places, in their order
unfoldable pub shapes_over : {U X : Type 0} → (Place → U → X) → List Place → List U → List X
shapes_over made [] us = []
shapes_over made (p ∷ ps) [] = []
shapes_over made (p ∷ ps) (u ∷ us) = made p u ∷ shapes_over made ps us
