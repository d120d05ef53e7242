-- What an events file comes to over a network.
use Rattle.std.specs.Prelude.{◌≡◌, ℕ, Bool, true, List, [], ◌∷◌, ◌++◌, codes, Option, Some, None, Ok, Err, Result}
use Rattle.std.specs.Prelude.{if◌then◌else◌}
use Rattle.std.specs.Bool.{Decides}
use Rattle.mw_text.specs.declared.address.Addr.{Addr}
use Rattle.mw_text.specs.declared.words.Line.{Line}
use Rattle.mw_text.specs.Reading.{following, in_turn}
use Rattle.mw_text.specs.Words.{is_skipped, text_lines}
use Rattle.ios_ast.specs.declared.file.File.{File}
use Rattle.ios_policy_reader.specs.declared.cause.Cause.TheVariants.{OutOfPlace}
use Rattle.machine_laws.specs.declared.state.Event.{Event}
use Rattle.machine_laws.specs.declared.state.EventRefused.TheVariants.{UnknownName}
use Rattle.machine_laws.specs.declared.state.State.{State}
use Rattle.machine_laws.specs.Events.{after, start}
use Rattle.machine_laws.specs.Quiet.{IsQuiet}
use Rattle.net_parts.specs.Stable.{Stable}
use Rattle.cex_json.specs.Text.{tables_text}
use Rattle.event_lines.specs.declared.orders.Order.{Order}
use Rattle.event_lines.specs.declared.orders.Order.TheVariants.{Destination, Identify, Take, Run}
use Rattle.simulation.specs.declared.causes.SimulationCause.{SimulationCause}
use Rattle.simulation.specs.declared.causes.SimulationCause.TheVariants as causes
use Rattle.simulation.specs.declared.causes.SimulationRefused.{SimulationRefused}
use Rattle.simulation.specs.declared.simulating.Simulated.{Simulated}
use Rattle.simulation.specs.Lines.{as_event, events_part, opening_part, ordered, refused_at}
use Rattle.simulation.specs.Opening.{started}
use Rattle.simulation.specs.Turns.{turned}

abbrev pub newline : List ℕ
newline = 10 ∷ []

-- the state after an event, if the line names what is there
abbrev pub taken : List File → Addr → State → Option Event → Result State SimulationCause
taken files d s None = Err (causes.Event UnknownName)
taken files d s (Some event) = as_event (after files d s event)

-- the state after what a line orders
abbrev pub done_by : List File → Addr → State → Order → Result State SimulationCause
done_by files d s (Destination other) = Err (causes.Line OutOfPlace)
done_by files d s (Identify peer id) = Err (causes.Line OutOfPlace)
done_by files d s (Take event) = taken files d s event
done_by files d s (Run count) = as_event (turned files d count s)

-- the state after a line, or its refusal
unfoldable pub next_state : List File → Addr → State → Line → Result State SimulationRefused
next_state files d s line =
    if is_skipped line.words then Ok s
    else refused_at line.number (following (done_by files d s) (ordered files line.words))

-- a destination, and a state of a machine that routes its prefixes
pub record Last : Type 0 where
  pub destination : Addr
  pub state : State

abbrev pub last_at : Addr → State → Last
last_at d s = record { destination = d; state = s }

-- where the lines of events begin, by the lines that open the file
abbrev pub begun : List File → List Line → List Line → Result Last SimulationRefused
begun files opening events =
    following (λ from. Ok (last_at from.destination (start files from.ids))) (started files opening events)

-- where the lines of events lead to, or the refusal of the first that is refused
abbrev pub run_lines : List File → List Line → Last → Result Last SimulationRefused
run_lines files events from =
    following (λ s. Ok (last_at from.destination s)) (in_turn (next_state files from.destination) from.state events)

-- the same of all lines
abbrev pub last_of : List File → List Line → List Line → Result Last SimulationRefused
last_of files opening events = following (run_lines files events) (begun files opening events)

-- the same of the bytes of an events file
unfoldable pub simulation_of : List File → List ℕ → Result Last SimulationRefused
simulation_of files bytes = last_of files (opening_part (text_lines bytes)) (events_part (text_lines bytes))

-- ---- the answer

abbrev pub state_word : Bool → List ℕ
state_word quiet = if quiet then codes "quiet" ++ newline else codes "busy" ++ newline

-- quiet, or busy; then the tables
abbrev pub answer_of : Bool → List ℕ → List ℕ
answer_of quiet tables = state_word quiet ++ (tables ++ newline)

-- what is said of a state: whether it is quiet, which comes with stable tables alone, and the text
pub record IsTold (files : List File) (last : Last) (answer : Simulated) : Type 0 where
  pub quiet : Decides answer.is_quiet (IsQuiet files last.destination last.state)
  pub stable : answer.is_quiet ≡ true →
      Stable files last.destination last.state.failures last.state.environment last.state.tables
  pub text : answer.text ≡ answer_of answer.is_quiet (tables_text files last.state.tables)

-- the answer speaks of the state that the lines of events lead to from there
abbrev pub IsToldFrom : List File → List Line → Last → Simulated → Type 0
IsToldFrom files events from answer =
    (last : Last) × (run_lines files events from ≡ Ok last) × IsTold files last answer

-- of the one that all lines lead to
abbrev pub IsToldOf : List File → List Line → List Line → Simulated → Type 0
IsToldOf files opening events answer =
    (last : Last) × (last_of files opening events ≡ Ok last) × IsTold files last answer

-- of the one that an events file leads to
abbrev pub IsSimulated : List File → List ℕ → Simulated → Type 0
IsSimulated files bytes answer = (last : Last) × (simulation_of files bytes ≡ Ok last) × IsTold files last answer
