use Rattle.sym_rib.proofs.Redistribution.{redistributed_same}
use Rattle.sym_rib.proofs.TableEntries.{entry_same}
use Rattle.sym_rib.proofs.laws.parts_law.Goals as goal

pub returns-clause-entry : goal.returns-clause-entry
returns-clause-entry c = entry_same

pub returns-clause-redistributed : goal.returns-clause-redistributed
returns-clause-redistributed c = λ tracked file process p slot all. redistributed_same tracked file p slot all process
