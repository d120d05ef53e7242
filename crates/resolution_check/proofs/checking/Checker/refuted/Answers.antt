use Rattle.std.proofs.Common.{sym, ◌∙◌, ap}
use Rattle.resolution_check.proofs.Truth.{unsatisfiable}
use Rattle.resolution_check.proofs.checking.Checker.refuted.Goals as goal

pub returns-clause-unsatisfiable : goal.returns-clause-unsatisfiable
returns-clause-unsatisfiable c =
    λ es h yes. unsatisfiable es h.good (sym h.refuted ∙ ap (λ k. k.refuted) (sym c.self.view_is) ∙ yes)
