use Rattle.log_answers.proofs.Sections.{never_both}
use Rattle.log_answers.proofs.laws.exact_law.Goals as goal

pub returns : goal.returns
returns c = never_both
