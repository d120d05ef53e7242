-- How a run ends before the answers, and what is ready to be answered.
use Rattle.std.specs.Prelude.{◌≡◌, ⊤, ℕ, ◌*◌, ◌≤◌, true, false, is_some, List, length, slice_get, Option, Some, None, Result, Ok, Err}
use Rattle.cex_json.specs.declared.counterexample.Counterexample.{Counterexample}
use Rattle.ios_ast.specs.declared.file.File.{File}
use Rattle.mw_outside.specs.Contents.{Contents}
use Rattle.mw_outside.specs.Faults.{Rose}
use Rattle.net_parts.specs.World.{IsEnvironment, IsFailureSet}
use Rattle.question_lang.specs.declared.question.Question.{Question}
use Rattle.question_lang.specs.declared.reader.TheConstants.{MOST_QUESTIONS}
use Rattle.question_lang.specs.Packets.{IsInSet}
use Rattle.route_record.specs.declared.TheConstants.{LENGTHS}
use Rattle.simulation.specs.declared.simulating.Simulated.{Simulated}
use Rattle.simulation.specs.Simulating.{IsTold, Last}
use Rattle.run_inputs.specs.declared.load.Stop.{Stop}
use Rattle.run_inputs.specs.declared.load.Stop.TheVariants as stop
use Rattle.run_inputs.specs.declared.load.TheConstants.{MOST_BYTES, MOST_CONFLICTS, MOST_LOG_BYTES}
use Rattle.run_inputs.specs.declared.text.Text.{Text}
use Rattle.run_inputs.specs.declared.work.Work.{Work}
use Rattle.run_inputs.specs.declared.work.Work.TheVariants.{Answer, Replay, Check, Simulate, Gen}
use Rattle.run_inputs.specs.Due.{Command, IsDueBy, Outcome, answering, checking, generating, refused, replaying}
use Rattle.run_inputs.specs.Due.{simulating}
use Rattle.run_inputs.specs.Order.{StopsIn, order_by}

-- P of the line of a refusal, Q at a fault of reading
abbrev pub OnStop : Stop → (List ℕ → Type 0) → Type 0 → Type 0
OnStop (stop.Refused line) P Q = P line
OnStop stop.ReadFault P Q = Q
OnStop stop.Memory P Q = ⊤

-- P unless a read failed
abbrev pub UnlessReadFault : {A : Type 0} → Result A Stop → Type 0 → Type 0
UnlessReadFault (Ok x) P = P
UnlessReadFault (Err (stop.Refused line)) P = P
UnlessReadFault (Err stop.ReadFault) P = ⊤
UnlessReadFault (Err stop.Memory) P = P

-- each text has few enough bytes
abbrev pub AreSmall : List Text → Type 0
AreSmall texts = (k : ℕ) (text : Text) → slice_get texts k ≡ Some text → length text.bytes ≤ MOST_BYTES

-- how many clauses a search may learn
abbrev pub IsBudget : ℕ → Type 0
IsBudget budget = (1 ≤ budget) × (budget ≤ MOST_CONFLICTS)

-- the answer is said of the state to which events lead
abbrev pub IsSaidOf : Outcome → Simulated → Type 0
IsSaidOf outcome answer =
    (files : List File) × (last : Last) × (outcome ≡ simulating files last) × IsTold files last answer

-- what the work of a command comes to
abbrev pub ComesTo : Work → Outcome → Type 0
ComesTo (Answer loaded) outcome = outcome ≡ answering loaded.net.files loaded.questions loaded.budget
ComesTo (Replay told) outcome = outcome ≡ replaying told.net.files told.questions told.cex
ComesTo (Check logged) outcome = outcome ≡ checking logged.net.files logged.questions logged.log
ComesTo (Simulate answer) outcome = IsSaidOf outcome answer
ComesTo (Gen ring) outcome =
    outcome ≡ generating ring.routers ring.loaded.net.files ring.loaded.questions ring.loaded.budget

-- a counterexample as the reader leaves it: of one of the questions, with its packet in the set, its failures among
-- those that are allowed, an environment of the network, and a slot for each router and length
pub record IsAdmitted (files : List File) (questions : List Question) (cex : Counterexample) : Type 0 where
  pub question : Question
  pub asked : slice_get questions cex.question ≡ Some question
  pub packet : IsInSet question.packets cex.packet
  pub environment : IsEnvironment files cex.env
  pub failures : IsFailureSet files question.failures cex.failures
  pub slots : length cex.tables.slots ≡ LENGTHS * length files

-- the work can be done: the questions are few, and so are the bytes of a log, or the counterexample is admitted
abbrev pub IsReady : Work → Type 0
IsReady (Answer loaded) = (length loaded.questions ≤ MOST_QUESTIONS) × IsBudget loaded.budget
IsReady (Replay told) = IsAdmitted told.net.files told.questions told.cex
IsReady (Check logged) = (length logged.questions ≤ MOST_QUESTIONS) × (length logged.log.bytes ≤ MOST_LOG_BYTES)
IsReady (Simulate answer) = Unit {0}
IsReady (Gen ring) = (length ring.loaded.questions ≤ MOST_QUESTIONS) × IsBudget ring.loaded.budget

-- what comes of the words, where this is their command: nothing where it is none; its work, which is due and ready; or
-- where that stops, and only there a read failed
abbrev pub WorksSo : Option Contents → Option Command → ℕ → ℕ → Option (List ℕ) → Option (List ℕ)
    → Result (Option Work) Stop → Type 0
WorksSo told command faults faults_now last last_now (Ok None) =
    (is_some command ≡ false) × (faults_now ≡ faults) × (last_now ≡ last)
WorksSo told command faults faults_now last last_now (Ok (Some work)) =
    (is_some command ≡ true) × (faults_now ≡ faults) × (last_now ≡ last)
    × ((outcome : Outcome) × IsDueBy told command outcome × ComesTo work outcome) × IsReady work
WorksSo told command faults faults_now last last_now (Err (stop.Refused line)) =
    (is_some command ≡ true) × (faults_now ≡ faults) × (last_now ≡ last) × IsDueBy told command (refused line)
WorksSo told command faults faults_now last last_now (Err stop.ReadFault) =
    (is_some command ≡ true) × Rose faults faults_now × StopsIn told (order_by command) last_now
WorksSo told command faults faults_now last last_now (Err stop.Memory) = (faults_now ≡ faults) × (last_now ≡ last)
