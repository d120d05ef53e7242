use Rattle.log_checker.proofs.Exact.{never_both}
use Rattle.log_checker.proofs.laws.exact_law.Goals as goal

pub returns : goal.returns
returns c = never_both
