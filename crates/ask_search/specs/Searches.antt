-- What a search for what breaks an ask finds, and what stands of it in the log.
use Rattle.std.specs.Prelude.{◌≡◌, ◌⊎◌, ℕ, true, List, length, Option}
use Rattle.mw_outside.specs.Taken.{Takes, TakesPart}
use Rattle.cdcl_search.specs.declared.outcome.Outcome.{Outcome}
use Rattle.cdcl_search.specs.Outcomes.{OnSat, OnUnknown, OnUnsat, Shows}
use Rattle.cdcl_search.specs.Turns.{TellBumps}
use Rattle.ios_ast.specs.declared.file.File.{File}
use Rattle.route_record.specs.declared.tracked.Tracked.{Tracked}
use Rattle.resolution_check.specs.declared.log.Entry.{Entry}
use Rattle.resolution_check.specs.Entries.{IsUnsatisfiable, satisfies}
use Rattle.run_answers.specs.Verdicts.{opening_text}
use Rattle.term_store.specs.Terms.{truth}
use Rattle.export_asks.specs.declared.ask.Ask.{Ask}
use Rattle.ask_search.specs.declared.formula.AskFormula.{AskFormula}
use Rattle.ask_search.specs.declared.verdict.AskVerdict.{AskVerdict}
use Rattle.ask_search.specs.Exporting.{question_of}
use Rattle.ask_search.specs.Formulas.{IsAskFormula}
use Rattle.ask_search.specs.Verdicts.{Answer, IsAnswer, IsSearched, ask_section}

-- a verdict with the section that shows it
abbrev pub answer_of : AskVerdict → List Entry → Answer
answer_of verdict section = record { verdict = verdict; section = section }

-- the verdict is right, the section that shows it stands in the log, and each decider that tells its bumps tells those of
-- that section
abbrev pub IsToldSo : List File → ℕ → Ask → AskVerdict → Option (List ℕ) → Option (List ℕ) → List (Option (List ℕ))
    → Type 0
IsToldSo files budget ask verdict logged_before logged_now tolds =
    (section : List Entry) × IsAnswer files budget ask (answer_of verdict section)
    × Takes logged_before logged_now (ask_section ask section) × TellBumps tolds section

-- a search found this outcome, its section stands in the log, and deciders tell its bumps
abbrev pub IsSearchedSo : List File → ℕ → Ask → Outcome → Option (List ℕ) → Option (List ℕ)
    → List (Option (List ℕ)) → Type 0
IsSearchedSo files budget ask outcome logged_before logged_now tolds =
    (entries : List Entry) × IsSearched files ask budget entries × Shows budget entries outcome
    × Takes logged_before logged_now (ask_section ask entries) × TellBumps tolds entries

-- what a search may leave in the log where it ends early: a front of the line that opens its section, or of a section
abbrev pub IsSectionOf : List File → ℕ → Ask → List ℕ → Type 0
IsSectionOf files budget ask text =
    (text ≡ opening_text (question_of ask))
    ⊎ ((entries : List Entry) × IsSearched files ask budget entries × (text ≡ ask_section ask entries))

-- a search was cut short: a front of what it may leave stands in the log
abbrev pub IsUnfinished : List File → ℕ → Ask → Option (List ℕ) → Option (List ℕ) → Type 0
IsUnfinished files budget ask logged_before logged_now =
    (text : List ℕ) × IsSectionOf files budget ask text × TakesPart logged_before logged_now text

-- the outcome is right of the clauses of the ask, and its section stands in the log
pub record IsFound (files : List File) (tracked : Tracked) (budget : ℕ) (ask : Ask) (formula : AskFormula)
    (outcome : Outcome) (logged_before logged_now : Option (List ℕ)) (tolds : List (Option (List ℕ))) : Type 0 where
  pub formula_is : IsAskFormula files tracked ask formula
  pub unsat : OnUnsat outcome (IsUnsatisfiable formula.cnf.clauses)
  pub sat : OnSat outcome (λ values. satisfies (truth values) formula.cnf.clauses ≡ true)
  pub values : OnSat outcome (λ values. length values ≡ formula.cnf.vars)
  pub unknown : OnUnknown outcome (λ added. added ≡ budget)
  pub logged : IsSearchedSo files budget ask outcome logged_before logged_now tolds
