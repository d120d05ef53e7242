-- What the lines that open an events file say: the destination, and the identifiers of external peers.
use Rattle.std.specs.Prelude.{ℕ, List, [], ◌∷◌, ◌++◌, map, take, slice_set, is_some, Option, Some, None}
use Rattle.std.specs.Prelude.{Ok, Err, Result}
use Rattle.std.specs.Prelude.{if◌then◌else◌}
use Rattle.std.specs.Option.{option_map_or}
use Rattle.mw_text.specs.declared.address.Addr.{Addr}
use Rattle.mw_text.specs.declared.words.Line.{Line}
use Rattle.mw_text.specs.Reading.{following, in_turn}
use Rattle.mw_text.specs.Words.{is_skipped}
use Rattle.ios_ast.specs.declared.file.File.{File}
use Rattle.ios_ast.specs.Deciding.{carries}
use Rattle.ios_policy_reader.specs.declared.cause.Cause.TheVariants.{OutOfPlace, Repeated}
use Rattle.machine_laws.specs.declared.state.EventRefused.TheVariants.{UnknownName}
use Rattle.net_parts.specs.declared.sessions.SessionEnd.{SessionEnd}
use Rattle.net_parts.specs.Decisions.{external_count}
use Rattle.net_parts.specs.Sessions.{ends_of, external_ends, neighbour_of}
use Rattle.event_lines.specs.declared.orders.Order.{Order}
use Rattle.event_lines.specs.declared.orders.Order.TheVariants.{Destination, Identify, Take, Run}
use Rattle.simulation.specs.declared.causes.SimulationCause.{SimulationCause}
use Rattle.simulation.specs.declared.causes.SimulationCause.TheVariants as causes
use Rattle.simulation.specs.declared.causes.SimulationRefused.{SimulationRefused}
use Rattle.simulation.specs.declared.opening.Opening.{Opening}
use Rattle.simulation.specs.declared.opening.Start.{Start}
use Rattle.simulation.specs.Lines.{ordered, refused_at}

-- the identifier of an external peer about which no line says one is its address
abbrev pub default_id : List File → SessionEnd → Addr
default_id files end = option_map_or (λ neighbour. neighbour.addr) (neighbour_of files end) (record { 0 = 0 })

-- those of all external peers, in the order of their ends
abbrev pub default_ids : List File → List Addr
default_ids files = map (default_id files) (external_ends files)

-- no line has said anything
abbrev pub unopened : List File → Opening
unopened files = record { destination = None; named = []; ids = default_ids files }

-- the peer of that end has that identifier
abbrev pub with_id : List File → ℕ → Addr → Opening → Opening
with_id files end id said = record {
  destination = said.destination;
  named = said.named ++ end ∷ [];
  ids = slice_set said.ids (external_count (take end (ends_of files))) id;
}

-- an identifier for that peer, if there is one; no peer gets a second one
abbrev pub identified : List File → Opening → Option ℕ → Addr → Result Opening SimulationCause
identified files said None id = Err (causes.Event UnknownName)
identified files said (Some end) id =
    if carries said.named end then Err (causes.Line Repeated) else Ok (with_id files end id said)

-- what is said with one order more: the destination first, once, and then identifiers
abbrev pub opened_by : List File → Opening → Order → Result Opening SimulationCause
opened_by files said (Destination d) =
    if is_some said.destination then Err (causes.Line OutOfPlace)
    else Ok (record { destination = Some d; named = said.named; ids = said.ids })
opened_by files said (Identify peer id) =
    if is_some said.destination then identified files said peer id else Err (causes.Line OutOfPlace)
opened_by files said (Take event) = Err (causes.Line OutOfPlace)
opened_by files said (Run count) = Err (causes.Line OutOfPlace)

-- with one line more, or its refusal
unfoldable pub next_opened : List File → Opening → Line → Result Opening SimulationRefused
next_opened files said line =
    if is_skipped line.words then Ok said
    else refused_at line.number (following (opened_by files said) (ordered files line.words))

-- ---- the start

-- why events without a destination are refused: at the first line that is one, or at line 1
abbrev pub misplaced : {A : Type 0} → Result A SimulationCause → SimulationCause
misplaced (Ok order) = causes.Line OutOfPlace
misplaced (Err cause) = cause

abbrev pub no_start : List File → List Line → SimulationRefused
no_start files [] = record { line = 1; cause = causes.Line OutOfPlace }
no_start files (line ∷ rest) = record { line = line.number; cause = misplaced (ordered files line.words) }

-- the destination and the identifiers that the opening lines say, before those events
abbrev pub start_by : List File → List Line → Opening → Result Start SimulationRefused
start_by files events said =
    option_map_or (λ d. Ok (record { destination = d; ids = said.ids })) said.destination (Err (no_start files events))

unfoldable pub started : List File → List Line → List Line → Result Start SimulationRefused
started files opening events =
    following (start_by files events) (in_turn (next_opened files) (unopened files) opening)
