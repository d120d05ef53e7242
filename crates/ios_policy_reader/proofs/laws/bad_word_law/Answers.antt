use Rattle.ios_policy_reader.proofs.Leasts.{least}
use Rattle.ios_policy_reader.proofs.laws.bad_word_law.Goals as goal

pub returns : goal.returns
returns c = least
