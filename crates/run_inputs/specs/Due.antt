-- What is due for words over the contents of files: usage, a refusal, or answers to questions over a network.
use Rattle.std.specs.Prelude.{◌≡◌, IfSome, ℕ, zero, suc, ◌+◌, ◌==◌, Bool, false, List, [], ◌∷◌, ◌++◌, length, nat_lt, nat_le, codes}
use Rattle.std.specs.Prelude.{slice_get, Option, Some, None, option_map, option_and_then, is_some, Result, Ok, Err}
use Rattle.std.specs.Prelude.{if◌then◌else◌}
use Rattle.std.specs.Option.{option_map_or}
use Rattle.mw_text.specs.Reading.{each, following}
use Rattle.mw_outside.specs.Contents.{Contents, get}
use Rattle.mw_gen.specs.declared.TheConstants.{LEAST_ROUTERS, MOST_ROUTERS}
use Rattle.mw_gen.specs.Ring.{question_text, router_name, router_text}
use Rattle.mw_words.specs.Asked.{Asked, asked_of, verify, check, replay, simulate, gen}
use Rattle.ios_ast.specs.declared.file.File.{File}
use Rattle.ios_policy_reader.specs.declared.cause.Refused.{Refused}
use Rattle.net_refusals.specs.declared.refusals.NetRefused.{NetRefused}
use Rattle.net_refusals.specs.Refusals.{first_refusal}
use Rattle.ios_reader.specs.Reading.{reading}
use Rattle.cex_json.specs.declared.counterexample.Counterexample.{Counterexample}
use Rattle.cex_json.specs.declared.refused.CexRefused.{CexRefused}
use Rattle.cex_json.specs.Reading.{reading as reading_cex}
use Rattle.question_lang.specs.declared.question.Question.{Question}
use Rattle.question_lang.specs.Asking.{asking}
use Rattle.mw_text.specs.Digits.{number_of}
use Rattle.simulation.specs.declared.causes.SimulationRefused.{SimulationRefused}
use Rattle.simulation.specs.Simulating.{Last, simulation_of}
use Rattle.run_inputs.specs.declared.load.TheConstants.{DEFAULT_CONFLICTS, MOST_BYTES, MOST_CEX_BYTES, MOST_CONFLICTS}
use Rattle.run_inputs.specs.declared.load.TheConstants.{MOST_LOG_BYTES}
use Rattle.run_inputs.specs.declared.text.Text.{Text}
use Rattle.run_inputs.specs.Texts.{cex_refusal, net_cause_text, refusal, refused_text, simulation_refusal, too_long}

-- what the contents of files come to
pub data Outcome : Type 0 where
  -- the words are no command
  usage : Outcome
  -- a file that the words name is not there
  unread : Outcome
  -- a file is refused, with this line
  refused : List ℕ → Outcome
  -- the questions over the network of these files are answered, each with that number of additions allowed
  answering : List File → List Question → ℕ → Outcome
  -- a counterexample to one of the questions over the network of these files is tested
  replaying : List File → List Question → Counterexample → Outcome
  -- a log is held against the questions over the network of these files
  checking : List File → List Question → Text → Outcome
  -- it is said whether this state of a machine of the network of these files is quiet, and what its tables are
  simulating : List File → Last → Outcome
  -- the size of a ring of so many routers is said, and the questions over it are answered, as above
  generating : ℕ → List File → List Question → ℕ → Outcome

-- ---- what the words ask for

-- a number from 1 to 1,000,000,000
abbrev pub count_of : List ℕ → Option ℕ
count_of word = option_and_then (λ count. if count == 0 then None else Some count) (number_of MOST_CONFLICTS word)

-- how many clauses a search may learn for a question: N of `--conflicts N`, where it stands
abbrev pub budget_of : Option (List ℕ) → Option ℕ
budget_of None = Some DEFAULT_CONFLICTS
budget_of (Some word) = count_of word

-- how many routers a ring has
abbrev pub routers_of : List ℕ → Option ℕ
routers_of word =
    option_and_then (λ count. if nat_lt count LEAST_ROUTERS then None else Some count) (number_of MOST_ROUTERS word)

-- a command whose numbers were read
pub data Command : Type 0 where
  -- how many clauses a search may learn, the questions and the configurations
  to_verify : ℕ → List ℕ → List (List ℕ) → Command
  -- the log, the questions and the configurations
  to_check : List ℕ → List ℕ → List (List ℕ) → Command
  -- the counterexample, the questions and the configurations
  to_replay : List ℕ → List ℕ → List (List ℕ) → Command
  -- the events and the configurations
  to_simulate : List ℕ → List (List ℕ) → Command
  -- how many clauses a search may learn, and how many routers
  to_gen : ℕ → ℕ → Command

-- the command that is asked for, where its numbers are in their ranges
abbrev pub command_by : Asked → Option Command
command_by (verify conflicts questions names) =
    option_map (λ budget. to_verify budget questions names) (budget_of conflicts)
command_by (check log questions names) = Some (to_check log questions names)
command_by (replay cex questions names) = Some (to_replay cex questions names)
command_by (simulate events names) = Some (to_simulate events names)
command_by (gen conflicts count) =
    option_and_then (λ budget. option_map (to_gen budget) (routers_of count)) (budget_of conflicts)

-- that of the words
abbrev pub command_of : List (List ℕ) → Option Command
command_of words = option_and_then command_by (asked_of words)

abbrev pub is_command : List (List ℕ) → Bool
is_command words = is_some (command_of words)

-- ---- what the files come to

-- a value, or the refusal of that file
abbrev pub read_as : {A : Type 0} → List ℕ → Result A Refused → Result A Outcome
read_as name (Ok x) = Ok x
read_as name (Err why) = Err (refused (refusal name why))

-- the text of a file of at most so many bytes
abbrev pub text_within : ℕ → Contents → List ℕ → Result Text Outcome
text_within most contents name =
    option_map_or (λ bytes. if nat_le (length bytes) most then Ok
    (record { name = name; bytes = bytes }) else Err (refused (too_long name)))
    (get contents name) (Err unread)

-- that of a configuration or of questions
abbrev pub text_of : Contents → List ℕ → Result Text Outcome
text_of contents name = text_within MOST_BYTES contents name

-- the file that a text reads as
abbrev pub file_of : Text → Result File Outcome
file_of text = read_as text.name (reading text.bytes)

-- the name of the text of that number
abbrev pub name_at : List Text → ℕ → List ℕ
name_at texts at = option_map_or (λ text. text.name) (slice_get texts at) []

-- the line of files that form no network: the file, the line and the rule that is broken first
abbrev pub net_refusal : List Text → NetRefused → List ℕ
net_refusal texts why = refused_text (name_at texts why.file) why.line (net_cause_text why.cause)

-- the files of some texts, where they are a network
abbrev pub network_of : List Text → List File → Result (List File) Outcome
network_of texts files =
    option_map_or (λ why. Err (refused (net_refusal texts why))) (first_refusal files) (Ok files)

-- the network of some texts
abbrev pub network_due : List Text → Result (List File) Outcome
network_due texts = following (network_of texts) (each file_of texts)

-- the questions of a text over a network
abbrev pub questions_of : Text → List File → Result (List Question) Outcome
questions_of text files = read_as text.name (asking files text.bytes)

-- the network of some texts, and the questions of another about it: each configuration is parsed, then the network,
-- then the questions
abbrev pub parsed_of : List Text → Text → Result (List File × List Question) Outcome
parsed_of texts asked =
    following (λ files. following (λ questions. Ok (files, questions)) (questions_of asked files)) (network_due texts)

-- what the texts of `verify` come to
abbrev pub texts_due : ℕ → List Text → Text → Result Outcome Outcome
texts_due budget texts asked =
    following (λ parsed. Ok (answering parsed.0 parsed.1 budget)) (parsed_of texts asked)

-- what the files of `verify` come to: all are read, the configurations first, and then their texts are parsed
abbrev pub files_due : Contents → ℕ → List ℕ → List (List ℕ) → Result Outcome Outcome
files_due contents budget questions names =
    following (λ texts. following (texts_due budget texts) (text_of contents questions)) (each (text_of contents) names)

-- the counterexample that a text states, or its refusal
abbrev pub told_as : Text → List File → List Question → Result Counterexample CexRefused → Result Outcome Outcome
told_as text files questions (Ok cex) = Ok (replaying files questions cex)
told_as text files questions (Err why) = Err (refused (cex_refusal text.name why))

abbrev pub cex_of : Text → List File → List Question → Result Outcome Outcome
cex_of text files questions = told_as text files questions (reading_cex files questions text.bytes)

-- what the texts of `replay` come to: the configurations, the network, the questions, and then the counterexample
abbrev pub replay_due : List Text → Text → Text → Result Outcome Outcome
replay_due texts asked told =
    following (λ files. following (cex_of told files) (questions_of asked files)) (network_due texts)

-- what the files of `replay` come to, read in the same order
abbrev pub replayed_due : Contents → List ℕ → List ℕ → List (List ℕ) → Result Outcome Outcome
replayed_due contents cex questions names =
    following (λ texts. following (λ asked. following (replay_due texts asked) (text_within MOST_CEX_BYTES contents
    cex))
    (text_of contents questions)) (each (text_of contents) names)

-- what the texts of `check` come to: the log is held against the questions, and no more is asked of it before
abbrev pub check_due : List Text → Text → Text → Result Outcome Outcome
check_due texts asked log = following (λ parsed. Ok (checking parsed.0 parsed.1 log)) (parsed_of texts asked)

-- what the files of `check` come to: the log is read last
abbrev pub checked_due : Contents → List ℕ → List ℕ → List (List ℕ) → Result Outcome Outcome
checked_due contents log questions names =
    following (λ texts. following (λ asked. following (check_due texts asked) (text_within MOST_LOG_BYTES contents log))
    (text_of contents questions)) (each (text_of contents) names)

-- the state that a text leads to as events, or its refusal
abbrev pub led_as : Text → List File → Result Last SimulationRefused → Result Outcome Outcome
led_as text files (Ok last) = Ok (simulating files last)
led_as text files (Err why) = Err (refused (simulation_refusal text.name why))

abbrev pub events_of : Text → List File → Result Outcome Outcome
events_of text files = led_as text files (simulation_of files text.bytes)

-- what the texts of `simulate` come to: the configurations, the network, and then the events
abbrev pub simulation_due : List Text → Text → Result Outcome Outcome
simulation_due texts events = following (events_of events) (network_due texts)

-- what the files of `simulate` come to, read in the same order
abbrev pub simulated_due : Contents → List ℕ → List (List ℕ) → Result Outcome Outcome
simulated_due contents events names =
    following (λ texts. following (simulation_due texts) (text_of contents events)) (each (text_of contents) names)

-- the text of a router of a ring of n, under the router's name
abbrev pub ring_text : (n i : ℕ) → Text
ring_text n i = record { name = router_name i; bytes = router_text n i }

-- those of its first routers
unfoldable pub ring_texts : (n count : ℕ) → List Text
ring_texts n zero = []
ring_texts n (suc c) = ring_texts n c ++ ring_text n (c + 1) ∷ []

-- the text of the question about it
abbrev pub ring_asked : ℕ → Text
ring_asked n = record { name = codes "questions"; bytes = question_text n }

-- what texts of a ring of so many routers come to
abbrev pub sized_due : (budget routers : ℕ) → List Text → Text → Result Outcome Outcome
sized_due budget routers texts asked =
    following (λ parsed. Ok (generating routers parsed.0 parsed.1 budget)) (parsed_of texts asked)

-- what those of the ring do
abbrev pub ring_due : (budget routers : ℕ) → Result Outcome Outcome
ring_due budget routers = sized_due budget routers (ring_texts routers routers) (ring_asked routers)

abbrev pub either : Result Outcome Outcome → Outcome
either (Ok outcome) = outcome
either (Err outcome) = outcome

-- what a command comes to
abbrev pub outcome_by : Contents → Command → Outcome
outcome_by contents (to_verify budget questions names) = either (files_due contents budget questions names)
outcome_by contents (to_check log questions names) = either (checked_due contents log questions names)
outcome_by contents (to_replay cex questions names) = either (replayed_due contents cex questions names)
outcome_by contents (to_simulate events names) = either (simulated_due contents events names)
outcome_by contents (to_gen budget routers) = either (ring_due budget routers)

-- and usage comes of no command
abbrev pub due_by : Contents → Option Command → Outcome
due_by contents None = usage
due_by contents (Some command) = outcome_by contents command

-- what `gen` comes to, for which no file is read
abbrev pub IsMadeDue : Option Command → Outcome → Type 0
IsMadeDue (Some (to_gen budget routers)) outcome = either (ring_due budget routers) ≡ outcome
IsMadeDue (Some (to_verify budget questions names)) outcome = Unit {0}
IsMadeDue (Some (to_check log questions names)) outcome = Unit {0}
IsMadeDue (Some (to_replay cex questions names)) outcome = Unit {0}
IsMadeDue (Some (to_simulate events names)) outcome = Unit {0}
IsMadeDue None outcome = Unit {0}

-- what is due for a command: usage where it is none, whatever the files hold; what the contents come to, where these are
-- told; and for `gen` what the ring comes to, told or not
pub record IsDueBy (contents : Option Contents) (command : Option Command) (outcome : Outcome) : Type 0 where
  pub no_command : is_some command ≡ false → outcome ≡ usage
  pub told : IfSome contents (λ files. due_by files command ≡ outcome)
  pub made : IsMadeDue command outcome

-- what is due for the words
abbrev pub IsDue : Option Contents → List (List ℕ) → Outcome → Type 0
IsDue contents words outcome = IsDueBy contents (command_of words) outcome
