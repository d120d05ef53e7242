use Rattle.std.proofs.lemmas.List.Elements.{All-weaker}
use Rattle.std.specs.Prelude.{Contains}
use Rattle.mw_text.specs.Members.{In}
use Rattle.net_parts.proofs.LeastWalks.{in-contains}
use Rattle.slot_places.specs.Origins.{origins_at}
use Rattle.slot_places.proofs.Known.{origins_known}
use Rattle.slot_places.proofs.laws.origins_known_law.Goals as goal

pub returns : goal.returns
returns c files destinations destination failures environment tables len covered stable short router file process slot at
    runs here =
    All-weaker (λ o. In o (origins_at files destinations len)) (Contains (origins_at files destinations len))
    (λ o there. in-contains o (origins_at files destinations len) there) _
    (origins_known files destinations destination failures environment tables len covered stable short router file process
    slot at runs here)
