-- Quiet states of a machine, and what breaks a question.
use Rattle.std.specs.Prelude.{◌≤◌, All, List, length, Option}
use Rattle.ios_ast.specs.declared.file.File.{File}
use Rattle.route_record.specs.declared.Packet.{Packet}
use Rattle.route_record.specs.declared.World.{World}
use Rattle.route_record.specs.Fits.{FitsSlot}
use Rattle.question_lang.specs.declared.question.Question.{Question}
use Rattle.question_lang.specs.declared.walk.Walk.{Walk}
use Rattle.question_lang.specs.Breaking.{Breaks}
use Rattle.question_lang.specs.Packets.{IsInSet}
use Rattle.machine_laws.specs.declared.state.State.{State}
use Rattle.machine_laws.specs.Events.{IsReached}
use Rattle.machine_laws.specs.Quiet.{IsQuiet}

-- what a packet meets in a state
abbrev pub world_of : State → Packet → World
world_of s packet = record { failures = s.failures; packet = packet; tables = s.tables }

-- no quiet state for the destination of a packet of the question's set, with at most as many failed links as it allows,
-- breaks the question, by a walk of that packet or without one
abbrev pub CoversQuietStates : List File → Question → Type 0
CoversQuietStates files question =
    (s : State) (packet : Packet) (walk : Option Walk) → IsInSet question.packets packet →
    IsReached files packet.dst s → All FitsSlot s.tables.slots → IsQuiet files packet.dst s →
    length s.failures.links ≤ question.failures → Breaks files (world_of s packet) question.kind walk → ⊥
