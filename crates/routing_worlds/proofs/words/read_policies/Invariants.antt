use Rattle.rebuilt_routes.specs.Words.{HasWordSets}
use Rattle.std.proofs.Common.{All, take}
use Rattle.routing_worlds.proofs.words.read_policies.Given as goal

-- those read so far fit
abbrev pub invariant-loop-file : goal.invariant-loop-file
invariant-loop-file l = All HasWordSets (take l.file-index l.files)
