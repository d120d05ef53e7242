use Rattle.routing_worlds.proofs.RoutingComplete.{rest_read, routing_complete, shapes_read}
use Rattle.routing_worlds.proofs.laws.complete_law.Goals as goal

pub returns-clause-read : goal.returns-clause-read
returns-clause-read c files tracked question plan world environment rest v from fits sliced routing here =
    shapes_read files tracked question plan world environment fits sliced routing rest v from here

pub returns-clause-passes : goal.returns-clause-passes
returns-clause-passes c files tracked question plan world environment rest v from fits sliced routing here =
    routing_complete files tracked question plan world environment fits sliced routing rest v from here

pub returns-clause-behind : goal.returns-clause-behind
returns-clause-behind c files tracked question plan world environment rest v from fits sliced routing here =
    rest_read files tracked question plan world environment fits sliced routing rest v from here
