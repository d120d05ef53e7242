use Rattle.routing_worlds.proofs.RoutingSound.{routing_sliced, routing_sound, shapes_are}
use Rattle.routing_worlds.proofs.laws.sound_law.Goals as goal

pub returns-clause-routing : goal.returns-clause-routing
returns-clause-routing c files tracked question plan v from fits fitting holds =
    routing_sound files tracked question plan v from fits holds fitting

pub returns-clause-sliced : goal.returns-clause-sliced
returns-clause-sliced c files tracked question plan v from fits holds =
    routing_sliced files tracked question plan v from fits holds

pub returns-clause-shapes : goal.returns-clause-shapes
returns-clause-shapes c files tracked question plan v from fits holds =
    shapes_are files tracked question plan v from fits holds
