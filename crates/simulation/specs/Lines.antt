-- The lines of an events file: why one is refused, and which open the file.
use Rattle.std.specs.Prelude.{ℕ, ◌||◌, Bool, true, false, not, List, drop, length, position, take, Option, Some, None}
use Rattle.std.specs.Prelude.{unwrap_or, Ok, Err, Result}
use Rattle.mw_text.specs.declared.words.Line.{Line}
use Rattle.mw_text.specs.Words.{is_skipped}
use Rattle.ios_ast.specs.declared.file.File.{File}
use Rattle.ios_policy_reader.specs.declared.cause.Cause.{Cause}
use Rattle.machine_laws.specs.declared.state.EventRefused.{EventRefused}
use Rattle.event_lines.specs.declared.heads.Form.{Form}
use Rattle.event_lines.specs.declared.heads.Form.TheVariants.{Destination, Identify, DeliverBgp, DeliverOspf, Decide}
use Rattle.event_lines.specs.declared.heads.Form.TheVariants.{Announce, Cut, Mend, Run}
use Rattle.event_lines.specs.declared.heads.Head.{Head}
use Rattle.event_lines.specs.declared.orders.Order.{Order}
use Rattle.event_lines.specs.Grammar.{head_of}
use Rattle.event_lines.specs.Orders.{order_in}
use Rattle.simulation.specs.declared.causes.SimulationCause.{SimulationCause}
use Rattle.simulation.specs.declared.causes.SimulationCause.TheVariants as causes
use Rattle.simulation.specs.declared.causes.SimulationRefused.{SimulationRefused}

-- ---- refusals

-- a value, or that a line is none
abbrev pub as_line : {A : Type 0} → Result A Cause → Result A SimulationCause
as_line (Ok x) = Ok x
as_line (Err cause) = Err (causes.Line cause)

-- a value, or that an event is refused
abbrev pub as_event : {A : Type 0} → Result A EventRefused → Result A SimulationCause
as_event (Ok x) = Ok x
as_event (Err why) = Err (causes.Event why)

-- a value, or the refusal at a line
abbrev pub refused_at : {A : Type 0} → ℕ → Result A SimulationCause → Result A SimulationRefused
refused_at line (Ok x) = Ok x
refused_at line (Err cause) = Err (record { line = line; cause = cause })

-- what a line of these words orders, or why it is none
abbrev pub ordered : List File → List (List ℕ) → Result Order SimulationCause
ordered files words = as_line (order_in files words)

-- ---- the lines that open a file

abbrev pub is_opening_form : Form → Bool
is_opening_form Destination = true
is_opening_form Identify = true
is_opening_form DeliverBgp = false
is_opening_form DeliverOspf = false
is_opening_form Decide = false
is_opening_form Announce = false
is_opening_form Cut = false
is_opening_form Mend = false
is_opening_form Run = false

abbrev pub is_opening_head : Option Head → Bool
is_opening_head None = false
is_opening_head (Some head) = is_opening_form head.3

-- the line says nothing, or begins as those that say the destination and the identifiers of peers
abbrev pub is_opening : Line → Bool
is_opening line = is_skipped line.words || is_opening_head (head_of line.words)

-- how many lines there are before the first other one
abbrev pub opening_count : List Line → ℕ
opening_count lines = unwrap_or (position (λ line. not (is_opening line)) lines) (length lines)

-- these lines, and those from the first other one on
abbrev pub opening_part : List Line → List Line
opening_part lines = take (opening_count lines) lines

abbrev pub events_part : List Line → List Line
events_part lines = drop (opening_count lines) lines
