use Rattle.route_record.specs.Fits.{IsWord}
use Rattle.std.proofs.Common.{All, take}
use Rattle.routing_worlds.proofs.words.read_words.Given as goal

-- those read so far fit
abbrev pub invariant-loop-value : goal.invariant-loop-value
invariant-loop-value l = All IsWord (take l.value-index l.values)
