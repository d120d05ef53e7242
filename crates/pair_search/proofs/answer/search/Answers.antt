use Rattle.std.proofs.Common.{ℕ, Err, refl, subst, ◌∙◌}
use Rattle.std.proofs.lemmas.Result.{err_from_is_err_and}
use Rattle.mw_outside.specs.Faults.{Rose}
use Rattle.question_search.proofs.Faults.{fault_on, unless_on}
use Rattle.mw_text.proofs.Results.{on_err}
use Rattle.pair_search.proofs.Formulas.{section_closed, section_filled, section_stands}
use Rattle.pair_search.proofs.answer.search.Goals as goal

pub returns-in_err-outcome-clause-cut : goal.returns-in_err-outcome-clause-cut
returns-in_err-outcome-clause-cut g c =
    on_err _ (section_filled c.args.left.now c.args.right.now c.args.ask.now c.in_ok-formula.formula c.args.budget
    (g.L.Sink.taken c.args.log.now) (g.L.Sink.taken c.open_section.new.log) (g.L.Sink.taken c.solve.new.log)
    c.in_ok-formula.ensures.formula c.in_ok-open_section.ensures.takes c.in_err-outcome.ensures.cut)

pub returns-in_err-write_end-clause-cut : goal.returns-in_err-write_end-clause-cut
returns-in_err-write_end-clause-cut g c =
    on_err _ (section_closed c.args.left.now c.args.right.now c.args.ask.now c.in_ok-formula.formula c.args.budget
    c.in_ok-outcome.outcome (g.L.Sink.taken c.args.log.now) (g.L.Sink.taken c.open_section.new.log)
    (g.L.Sink.taken c.solve.new.log) (g.L.Sink.taken c.write_end.new.log) _ c.in_ok-formula.ensures.formula
    c.in_ok-open_section.ensures.takes c.in_ok-outcome.ensures.logged c.write_end.ensures.part)

pub returns-in_err-write_end-clause-fault : goal.returns-in_err-write_end-clause-fault
returns-in_err-write_end-clause-fault g c =
    let p = err_from_is_err_and c.from_residual-in_err-write_end.result c.from_residual-in_err-write_end.ensures.1 in
    let R : ℕ → Type 0 = λ before. Rose before (g.L.Sink.faults c.write_end.new.log) in
    rw (p.1, p.2)
    (fault_on {A = ℕ} {B = ℕ} (Err c.in_err-write_end.field-0.0) (Err c.in_err-write_end.field-0.0) c.in_err-write_end.field-0.0 refl refl
    c.in_err-write_end.ensures.fault
    (λ rose. subst R (c.in_ok-outcome.ensures.stays ∙ c.in_ok-open_section.ensures.stays) rose))

pub returns-in_err-write_end-clause-stays : goal.returns-in_err-write_end-clause-stays
returns-in_err-write_end-clause-stays g c =
    let p = err_from_is_err_and c.from_residual-in_err-write_end.result c.from_residual-in_err-write_end.ensures.1 in
    rw (p.1, p.2)
    (unless_on {A = ℕ} {B = ℕ} (Err c.in_err-write_end.field-0.0) (Err c.in_err-write_end.field-0.0) c.in_err-write_end.field-0.0 refl refl
    c.in_err-write_end.ensures.stays
    (λ same. same ∙ c.in_ok-outcome.ensures.stays ∙ c.in_ok-open_section.ensures.stays))

pub returns-clause-found : goal.returns-clause-found
returns-clause-found g c = record {
  formula_is = c.in_ok-formula.ensures.formula;
  unsat = c.in_ok-outcome.ensures.unsat;
  sat = c.in_ok-outcome.ensures.sat;
  values = c.in_ok-outcome.ensures.values;
  unknown = c.in_ok-outcome.ensures.unknown;
  logged = section_stands c.args.left.now c.args.right.now c.args.ask.now c.in_ok-formula.formula c.args.budget
      c.in_ok-outcome.outcome (g.L.Sink.taken c.args.log.now) (g.L.Sink.taken c.open_section.new.log)
      (g.L.Sink.taken c.solve.new.log) (g.L.Sink.taken c.write_end.new.log) _ c.in_ok-formula.ensures.formula
      c.in_ok-open_section.ensures.takes c.in_ok-outcome.ensures.logged c.in_ok-write_end.ensures.takes;
}
