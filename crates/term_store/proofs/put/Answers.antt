use Rattle.term_store.specs.contracts.NodePartialEq.TheImpl.{eq-value}
use Rattle.term_store.proofs.EqualNodes.{same, itself}
use Rattle.term_store.proofs.NodeSet.{insert_key_cases, one_index}
use Rattle.term_store.proofs.put.Goals as goal

pub returns-in_err-index-clause-once : goal.returns-in_err-index-clause-once
returns-in_err-index-clause-once c = one_index eq-value.it same itself _ c.insert_full.ensures.unique

pub returns-clause-puts : goal.returns-clause-puts
returns-clause-puts c = insert_key_cases eq-value.it same itself _ _ _ c.in_ok-index.ensures.keys

pub returns-clause-once : goal.returns-clause-once
returns-clause-once c = one_index eq-value.it same itself _ c.insert_full.ensures.unique
