use Rattle.ios_ast.specs.declared.file.File.{File}
use Rattle.world_variables.specs.Worlds.{FitsDistance}
use Rattle.std.proofs.Common.{All, take}
use Rattle.routing_worlds.proofs.words.read_distances.Given as goal

-- those read so far fit
abbrev pub invariant-loop-file : goal.invariant-loop-file
invariant-loop-file l = All (λ (file : File). All FitsDistance file.statics) (take l.file-index l.files)
