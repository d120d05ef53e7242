-- What a search for what makes two networks answer an ask differently finds, and what stands of it in the log.
use Rattle.std.specs.Prelude.{◌≡◌, ◌⊎◌, ℕ, true, List, length, Option}
use Rattle.mw_outside.specs.Taken.{Takes, TakesPart}
use Rattle.cdcl_search.specs.declared.outcome.Outcome.{Outcome}
use Rattle.cdcl_search.specs.Outcomes.{OnSat, OnUnknown, OnUnsat, Shows}
use Rattle.cdcl_search.specs.Turns.{TellBumps}
use Rattle.ios_ast.specs.declared.file.File.{File}
use Rattle.net_model.specs.Kept.{Network}
use Rattle.resolution_check.specs.declared.log.Entry.{Entry}
use Rattle.resolution_check.specs.Entries.{IsUnsatisfiable, satisfies}
use Rattle.routings_beside.specs.Pairs.{question_of}
use Rattle.run_answers.specs.Verdicts.{opening_text}
use Rattle.same_asks.specs.declared.same.Same.{Same}
use Rattle.term_store.specs.Terms.{truth}
use Rattle.pair_search.specs.declared.formula.PairFormula.{PairFormula}
use Rattle.pair_search.specs.declared.verdict.SameVerdict.{SameVerdict}
use Rattle.pair_search.specs.Formulas.{IsPairFormula}
use Rattle.pair_search.specs.Verdicts.{Answer, IsAnswer, IsSearched, same_section}

-- a verdict with the section that shows it
abbrev pub answer_of : SameVerdict → List Entry → Answer
answer_of verdict section = record { verdict = verdict; section = section }

-- the verdict is right, the section that shows it stands in the log, and each decider that tells its bumps tells those of
-- that section
abbrev pub IsToldSo : List File → List File → ℕ → Same → SameVerdict → Option (List ℕ) → Option (List ℕ)
    → List (Option (List ℕ)) → Type 0
IsToldSo left right budget ask verdict logged_before logged_now tolds =
    (section : List Entry) × IsAnswer left right budget ask (answer_of verdict section)
    × Takes logged_before logged_now (same_section ask section) × TellBumps tolds section

-- a search found this outcome, its section stands in the log, and deciders tell its bumps
abbrev pub IsSearchedSo : List File → List File → ℕ → Same → Outcome → Option (List ℕ) → Option (List ℕ)
    → List (Option (List ℕ)) → Type 0
IsSearchedSo left right budget ask outcome logged_before logged_now tolds =
    (entries : List Entry) × IsSearched left right ask budget entries × Shows budget entries outcome
    × Takes logged_before logged_now (same_section ask entries) × TellBumps tolds entries

-- what a search may leave in the log where it ends early: a front of the line that opens its section, or of a section
abbrev pub IsSectionOf : List File → List File → ℕ → Same → List ℕ → Type 0
IsSectionOf left right budget ask text =
    (text ≡ opening_text (question_of ask))
    ⊎ ((entries : List Entry) × IsSearched left right ask budget entries × (text ≡ same_section ask entries))

-- a search was cut short: a front of what it may leave stands in the log
abbrev pub IsUnfinished : List File → List File → ℕ → Same → Option (List ℕ) → Option (List ℕ) → Type 0
IsUnfinished left right budget ask logged_before logged_now =
    (text : List ℕ) × IsSectionOf left right budget ask text × TakesPart logged_before logged_now text

-- the outcome is right of the clauses of the ask, and its section stands in the log
pub record IsFound (left right : Network) (budget : ℕ) (ask : Same) (formula : PairFormula) (outcome : Outcome)
    (logged_before logged_now : Option (List ℕ)) (tolds : List (Option (List ℕ))) : Type 0 where
  pub formula_is : IsPairFormula left right ask formula
  pub unsat : OnUnsat outcome (IsUnsatisfiable formula.cnf.clauses)
  pub sat : OnSat outcome (λ values. satisfies (truth values) formula.cnf.clauses ≡ true)
  pub values : OnSat outcome (λ values. length values ≡ formula.cnf.vars)
  pub unknown : OnUnknown outcome (λ added. added ≡ budget)
  pub logged : IsSearchedSo left.files right.files budget ask outcome logged_before logged_now tolds
