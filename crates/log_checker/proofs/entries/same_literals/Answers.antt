use Rattle.log_checker.proofs.Fronts.{same_lists}
use Rattle.log_checker.proofs.entries.same_literals.Goals as goal

pub returns : goal.returns
returns c = same_lists c.args.a.now c.args.b.now c.eq.result c.eq.ensures
