use Rattle.std.proofs.Common.{◌∙◌, length, arith, ap, take_at}
use Rattle.std.proofs.lemmas.Grind.{common_steps}
use Rattle.cnf_blaster.specs.Laws.{marked}
use Rattle.cnf_blaster.proofs.marks.reached_marks.Goals as goal

pub returns-clause-len : goal.returns-clause-len
returns-clause-len c = ap length (take_at c.mark_from.new.marks _ _ (omega arith)) ∙ grind (arith, common_steps)

pub returns-clause-marks : goal.returns-clause-marks
returns-clause-marks c = ap marked (take_at c.mark_from.new.marks _ _ (omega arith)) ∙ c.mark_from.ensures
