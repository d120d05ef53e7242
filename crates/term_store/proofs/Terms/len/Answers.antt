use Rattle.std.proofs.Common.{ap, subst}
use Rattle.term_store.specs.Terms.{StandsOnce}
use Rattle.term_store.specs.contracts.NodePartialEq.TheImpl.{eq-value}
use Rattle.term_store.proofs.NodeSet.{one_index}
use Rattle.term_store.proofs.EqualNodes.{same, itself}
use Rattle.term_store.proofs.Terms.len.Goals as goal

pub returns-clause-once : goal.returns-clause-once
returns-clause-once c =
    subst StandsOnce (ap (λ s. s.nodes) c.self.view_is) (one_index eq-value.it same itself _ c.len.ensures.unique)
