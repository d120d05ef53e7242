-- A question that nothing breaks is broken in no quiet state.
use Rattle.std.proofs.Common.{ℕ, ◌≤◌, List, length}
use Rattle.ios_ast.specs.declared.file.File.{File}
use Rattle.route_record.specs.declared.Failures.{Failures}
use Rattle.net_parts.specs.World.{IsFailureSet}
use Rattle.question_lang.specs.declared.question.Question.{Question}
use Rattle.question_lang.specs.Breaking.{IsUnbroken}
use Rattle.machine_laws.proofs.Reached.{reached_sound, reached_stable}
use Rattle.machine_verdicts.specs.Covered.{CoversQuietStates, world_of}

at_most : (files : List File) (k : ℕ) (failures : Failures) → IsFailureSet files (length failures.links) failures →
    length failures.links ≤ k → IsFailureSet files k failures
at_most files k failures is few = record { ascending = is.ascending; of_links = is.of_links; at_most = few }

pub covered : (files : List File) (question : Question) → IsUnbroken files question → CoversQuietStates files question
covered files question unbroken s packet walk in_set reached fits quiet few breaks =
    let sound = reached_sound files packet.dst s reached in
    unbroken (world_of s packet) s.environment walk (record {
      packet = in_set;
      environment_fits = sound.environment;
      failures = at_most files question.failures s.failures sound.failures few;
      stable = reached_stable files packet.dst s reached fits quiet;
      breaks = breaks;
    })
