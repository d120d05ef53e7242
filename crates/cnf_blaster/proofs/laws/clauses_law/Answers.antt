use Rattle.cnf_blaster.specs.Cnf.{reached}
use Rattle.cnf_blaster.proofs.Truth.{true_under, satisfied}
use Rattle.cnf_blaster.proofs.laws.clauses_law.Goals as goal

pub returns : goal.returns
returns c =
    λ v nodes roots. (true_under v (reached nodes roots) nodes roots, satisfied v (reached nodes roots) nodes roots)
