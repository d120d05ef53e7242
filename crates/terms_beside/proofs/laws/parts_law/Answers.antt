use Rattle.terms_beside.proofs.Parts.{first_is, second_is}
use Rattle.terms_beside.proofs.laws.parts_law.Goals as goal

pub returns-clause-first : goal.returns-clause-first
returns-clause-first c = first_is

pub returns-clause-second : goal.returns-clause-second
returns-clause-second c = second_is
