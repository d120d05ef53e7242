-- The forms of the commands, as commands of `clap` without flags for help and version, and what it reads by them.
use Rattle.std.specs.Prelude.{ℕ, List, [], ◌∷◌, Option, Some, None, true, codes, length, ◌==◌, if◌then◌else◌}
use Rattle.clap.specs.Lexer.{usize_max}
use Rattle.clap.specs.Words.{App, Row, Rule, Text, fault_of, matches_of, new_app, new_rule, with_rule}

-- without flags for help and version
abbrev pub bare_app : Text → App
bare_app name = record (new_app name) {
  top = record (new_app name).top { disable_help_flag = true; disable_version_flag = true };
}

-- `--conflicts N`, which may stand once
abbrev pub conflicts_rule : Rule
conflicts_rule = record (new_rule (codes "conflicts")) { long = Some (codes "conflicts") }

-- one word
abbrev pub single_rule : Text → Rule
single_rule id = record (new_rule id) { required = true }

-- one word or more
abbrev pub many_rule : Text → Rule
many_rule id = record (new_rule id) {
  required = true;
  range = Some (record { start_inclusive = 1; end_inclusive = usize_max });
}

-- verify [--conflicts N] QUESTIONS CONFIG...
abbrev pub verify_app : App
verify_app =
    with_rule (with_rule (with_rule (bare_app (codes "verify")) conflicts_rule) (single_rule (codes "questions")))
    (many_rule (codes "config"))

-- NAME OWN QUESTIONS CONFIG...
abbrev pub telling_app : Text → App
telling_app name =
    with_rule (with_rule (with_rule (bare_app name) (single_rule (codes "own"))) (single_rule (codes "questions")))
    (many_rule (codes "config"))

-- simulate EVENTS CONFIG...
abbrev pub simulate_app : App
simulate_app =
    with_rule (with_rule (bare_app (codes "simulate")) (single_rule (codes "events"))) (many_rule (codes "config"))

-- gen [--conflicts N] COUNT
abbrev pub gen_app : App
gen_app = with_rule (with_rule (bare_app (codes "gen")) conflicts_rule) (single_rule (codes "count"))

-- what the words of a command are read as: the values of its arguments, or nothing where they are refused
abbrev pub rows_due : App → List Text → Option (List Row)
rows_due app words = if length (fault_of app words) == 0 then Some (matches_of app words) else None
