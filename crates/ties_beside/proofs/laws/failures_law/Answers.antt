use Rattle.sym_policy.specs.Held.{failures_of}
use Rattle.term_arith.specs.Bits.{bits}
use Rattle.ties_beside.proofs.Failing.{holds_there, stands_there}
use Rattle.ties_beside.proofs.laws.failures_law.Goals as goal

pub returns : goal.returns
unfolding failures_of
returns c = λ w net at. (stands_there (bits w net.down) at, holds_there (bits w net.down) at)
