-- What a search for what breaks a question finds.
use Rattle.std.specs.Prelude.{◌≡◌, ℕ, true, List, length, Option}
use Rattle.cdcl_search.specs.declared.outcome.Outcome.{Outcome}
use Rattle.cdcl_search.specs.Outcomes.{OnSat, OnUnknown, OnUnsat}
use Rattle.ios_ast.specs.declared.file.File.{File}
use Rattle.route_record.specs.declared.tracked.Tracked.{Tracked}
use Rattle.question_lang.specs.declared.question.Question.{Question}
use Rattle.resolution_check.specs.Entries.{IsUnsatisfiable, satisfies}
use Rattle.term_store.specs.Terms.{truth}
use Rattle.run_answers.specs.Answering.{IsSearchedSo}
use Rattle.question_search.specs.declared.formula.Formula.{Formula}
use Rattle.question_search.specs.Formulas.{IsFormula}

-- the outcome is right of the clauses of the question, and its section stands in the log
pub record IsFound (files : List File) (tracked : Tracked) (budget : ℕ) (question : Question) (formula : Formula) (outcome : Outcome)
    (logged_before logged_now : Option (List ℕ)) (tolds : List (Option (List ℕ))) : Type 0 where
  pub formula_is : IsFormula files tracked question formula
  pub unsat : OnUnsat outcome (IsUnsatisfiable formula.cnf.clauses)
  pub sat : OnSat outcome (λ values. satisfies (truth values) formula.cnf.clauses ≡ true)
  pub values : OnSat outcome (λ values. length values ≡ formula.cnf.vars)
  pub unknown : OnUnknown outcome (λ added. added ≡ budget)
  pub logged : IsSearchedSo files budget question outcome logged_before logged_now tolds
