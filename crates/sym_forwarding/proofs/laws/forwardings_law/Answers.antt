use Rattle.std.proofs.Common.{◌≡◌, subst}
use Rattle.question_lang.specs.declared.question.Start.{Start}
use Rattle.question_lang.specs.Hops.{next_hops}
use Rattle.sym_forwarding.specs.Beginnings.{begins_at}
use Rattle.sym_forwarding.specs.Forwardings.{IsBeginning}
use Rattle.sym_forwarding.specs.Here.{ends_here}
use Rattle.sym_forwarding.proofs.Sought.{twin_forwards}
use Rattle.sym_forwarding.proofs.Starts.{begins}
use Rattle.sym_forwarding.proofs.TargetRouters.{told_here}
use Rattle.sym_forwarding.proofs.laws.forwardings_law.Goals as goal

pub returns-clause-table : goal.returns-clause-table
returns-clause-table c = λ files world kind table long twins. record {
  long = long;
  each = λ router f found.
      twin_forwards files world kind router (ends_here files world.failures world.packet router kind)
      (next_hops files world router) f (told_here files world router kind) (twins router f found);
}

pub returns-clause-beginning : goal.returns-clause-beginning
returns-clause-beginning c = λ files world kind start asked other same.
    let one : start ≡ other = cc in
    let P : Start → Type 0 = λ s. IsBeginning files world s (begins_at files world.failures world.packet start) in
    subst P one (begins files world start)
