use Rattle.std.specs.Prelude.{IsTrue}
use Rattle.slot_places.proofs.Supports.{all_held}
use Rattle.slot_places.proofs.laws.origins_law.Goals as goal

pub returns : goal.returns
returns c files destination failures environment tables len P stable short costs kept origins router slot held here =
    all_held files destination failures environment tables len (λ r. IsTrue (P r)) stable short costs kept origins
    router slot held here
