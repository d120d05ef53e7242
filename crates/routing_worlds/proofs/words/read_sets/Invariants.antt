use Rattle.rebuilt_routes.specs.Words.{SetsWords}
use Rattle.std.proofs.Common.{All, take}
use Rattle.routing_worlds.proofs.words.read_sets.Given as goal

-- those read so far fit
abbrev pub invariant-loop-act : goal.invariant-loop-act
invariant-loop-act l = All SetsWords (take l.act-index l.sets)
