use Rattle.cdcl_search.proofs.Bound.{undeleted_bound, spaced_bound}
use Rattle.cdcl_search.proofs.laws.bound_law.Goals as goal

pub returns-clause-undeleted : goal.returns-clause-undeleted
returns-clause-undeleted c = undeleted_bound

pub returns-clause-spaced : goal.returns-clause-spaced
returns-clause-spaced c = spaced_bound
