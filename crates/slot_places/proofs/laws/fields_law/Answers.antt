use Rattle.slot_places.proofs.Telling.{again, small}
use Rattle.slot_places.proofs.laws.fields_law.Goals as goal

pub returns-clause-small : goal.returns-clause-small
returns-clause-small c field n fits = small field n fits

pub returns-clause-again : goal.returns-clause-again
returns-clause-again c field n fits = again field n fits
