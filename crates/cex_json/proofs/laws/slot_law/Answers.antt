use Rattle.cex_json.proofs.WrittenSlots.{slot_back}
use Rattle.cex_json.proofs.laws.slot_law.Goals as goal

pub returns : goal.returns
returns c = slot_back
