use Rattle.ios_ast.specs.declared.policies.RouteMap.{RouteMap}
use Rattle.rebuilt_routes.specs.Words.{SetsWords}
use Rattle.std.proofs.Common.{All, take}
use Rattle.routing_worlds.proofs.words.read_maps.Given as goal

-- those read so far fit
abbrev pub invariant-loop-map : goal.invariant-loop-map
invariant-loop-map l = All (λ (m : RouteMap). All (λ e. All SetsWords e.sets) m.entries) (take l.map-index l.maps)
