use Rattle.std.proofs.Common.{sym, ◌∙◌}
use Rattle.std.proofs.lemmas.Bool.{false≢true}
use Rattle.resolution_check.proofs.Resolvents.{inside-same}
use Rattle.resolution_check.proofs.laws.earned_law.Goals as goal

pub returns : goal.returns
returns c =
    λ es id clause chain earned other held is_held same. false≢true (sym (earned.smallest other held is_held)
    ∙ inside-same held.lits clause.lits same)
