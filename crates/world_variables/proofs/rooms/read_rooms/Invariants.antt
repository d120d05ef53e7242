use Rattle.std.proofs.Common.{All, IfSome, take}
use Rattle.world_variables.specs.Unknowns.{HasWords}
use Rattle.world_variables.proofs.rooms.read_rooms.Given as goal

abbrev pub invariant-loop-room : goal.invariant-loop-room
invariant-loop-room l = All (λ o. IfSome o (λ r. HasWords r.metric)) (take l.room-index l.rooms)
