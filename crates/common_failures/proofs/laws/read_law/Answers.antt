use Rattle.joined_terms.specs.Joining.{behind}
use Rattle.sym_policy.specs.Held.{failures_of}
use Rattle.common_failures.proofs.Own.{at_most}
use Rattle.common_failures.proofs.laws.read_law.Goals as goal

pub returns : goal.returns
unfolding failures_of
returns c = λ w places a b pairs most. at_most w (behind places w) pairs a.down b.down most
