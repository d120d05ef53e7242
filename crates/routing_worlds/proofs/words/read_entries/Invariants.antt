use Rattle.ios_ast.specs.declared.policies.MapEntry.{MapEntry}
use Rattle.rebuilt_routes.specs.Words.{SetsWords}
use Rattle.std.proofs.Common.{All, take}
use Rattle.routing_worlds.proofs.words.read_entries.Given as goal

-- those read so far fit
abbrev pub invariant-loop-entry : goal.invariant-loop-entry
invariant-loop-entry l = All (λ (e : MapEntry). All SetsWords e.sets) (take l.entry-index l.entries)
