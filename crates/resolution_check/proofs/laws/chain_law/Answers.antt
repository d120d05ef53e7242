use Rattle.resolution_check.proofs.Chains.{resolved-push}
use Rattle.resolution_check.proofs.laws.chain_law.Goals as goal

pub returns : goal.returns
returns c = resolved-push
