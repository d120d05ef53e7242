use Rattle.std.proofs.Common.{◌∙◌, ap, ◌&&◌, not}
use Rattle.resolution_check.specs.Clauses.{has}
use Rattle.resolution_check.proofs.Pivots.{covered}
use Rattle.resolution_check.proofs.chain.is_covered.Goals as goal

pub returns : goal.returns
returns c =
    λ r shows. covered r c.args.clause.now c.unmark_all.new.marks c.is_empty.result (λ l. c.unmark_all.ensures l
    ∙ ap (λ b. not (has c.args.clause.now l) && b) (shows l)) c.is_empty.ensures
