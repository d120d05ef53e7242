use Rattle.std.proofs.Common.{subst}
use Rattle.term_store.specs.Terms.{IsSound}
use Rattle.term_store.proofs.Terms.stands_in_order.Goals as goal

pub returns-clause-sound : goal.returns-clause-sound
returns-clause-sound c = subst (λ s. IsSound s.nodes s.vars) c.self.view_is c.self.invariant
