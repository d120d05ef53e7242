-- What the words of a command ask for.
use Rattle.std.specs.Prelude.{ℕ, List, [], ◌∷◌, Option, Some, None, codes, option_map, unwrap_or, map, if◌then◌else◌}
use Rattle.mw_text.specs.Text.{same_text}
use Rattle.clap.specs.Words.{Row, Text, all_of, first_of}
use Rattle.mw_words.specs.declared.request.Request.{Request}
use Rattle.mw_words.specs.declared.request.Request.TheVariants.{Verify, Check, Replay, Simulate, Gen}
use Rattle.mw_words.specs.Forms.{gen_app, rows_due, simulate_app, telling_app, verify_app}

-- a command with the values of its arguments
pub data Asked : Type 0 where
  -- the limit of conflicts, where it is said, the questions and the configurations
  verify : Option Text → Text → List Text → Asked
  -- the log, the questions and the configurations
  check : Text → Text → List Text → Asked
  -- the counterexample, the questions and the configurations
  replay : Text → Text → List Text → Asked
  -- the events and the configurations
  simulate : Text → List Text → Asked
  -- the limit of conflicts, where it is said, and how many routers
  gen : Option Text → Text → Asked

-- the value of an argument
abbrev pub value_of : Text → List Row → Text
value_of id rows = unwrap_or (first_of id rows) []

abbrev pub values_of : Text → List Row → List Text
values_of id rows = unwrap_or (all_of id rows) []

-- ---- each command by the values of its arguments

abbrev pub verify_by : List Row → Asked
verify_by rows =
    verify (first_of (codes "conflicts") rows) (value_of (codes "questions") rows) (values_of (codes "config") rows)

abbrev pub check_by : List Row → Asked
check_by rows =
    check (value_of (codes "own") rows) (value_of (codes "questions") rows) (values_of (codes "config") rows)

abbrev pub replay_by : List Row → Asked
replay_by rows =
    replay (value_of (codes "own") rows) (value_of (codes "questions") rows) (values_of (codes "config") rows)

abbrev pub simulate_by : List Row → Asked
simulate_by rows = simulate (value_of (codes "events") rows) (values_of (codes "config") rows)

abbrev pub gen_by : List Row → Asked
gen_by rows = gen (first_of (codes "conflicts") rows) (value_of (codes "count") rows)

-- ---- what the words ask for; nothing where they are no command

abbrev pub verify_of : List Text → Option Asked
verify_of words = option_map verify_by (rows_due verify_app words)

abbrev pub check_of : List Text → Option Asked
check_of words = option_map check_by (rows_due (telling_app (codes "check")) words)

abbrev pub replay_of : List Text → Option Asked
replay_of words = option_map replay_by (rows_due (telling_app (codes "replay")) words)

abbrev pub simulate_of : List Text → Option Asked
simulate_of words = option_map simulate_by (rows_due simulate_app words)

abbrev pub gen_of : List Text → Option Asked
gen_of words = option_map gen_by (rows_due gen_app words)

-- the first word is the command
abbrev pub asked_by : Text → List Text → Option Asked
asked_by command words =
    if same_text command (codes "verify") then verify_of words
    else (if same_text command (codes "check") then check_of words
    else (if same_text command (codes "replay") then replay_of words
    else (if same_text command (codes "simulate") then simulate_of words
    else (if same_text command (codes "gen") then gen_of words else None))))

unfoldable pub asked_of : List Text → Option Asked
asked_of [] = None
asked_of (command ∷ rest) = asked_by command (command ∷ rest)

-- what a request asks for
abbrev pub asks : Request → Asked
asks (Verify conflicts questions configs) =
    verify (option_map (λ s. s.now) conflicts) questions.now (map (λ s. s.now) configs.items)
asks (Check log questions configs) = check log.now questions.now (map (λ s. s.now) configs.items)
asks (Replay cex questions configs) = replay cex.now questions.now (map (λ s. s.now) configs.items)
asks (Simulate events configs) = simulate events.now (map (λ s. s.now) configs.items)
asks (Gen conflicts count) = gen (option_map (λ s. s.now) conflicts) count.now
