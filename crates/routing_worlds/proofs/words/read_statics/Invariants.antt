use Rattle.world_variables.specs.Worlds.{FitsDistance}
use Rattle.std.proofs.Common.{All, take}
use Rattle.routing_worlds.proofs.words.read_statics.Given as goal

-- those read so far fit
abbrev pub invariant-loop-route : goal.invariant-loop-route
invariant-loop-route l = All FitsDistance (take l.route-index l.statics)
