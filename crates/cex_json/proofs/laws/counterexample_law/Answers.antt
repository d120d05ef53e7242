use Rattle.cex_json.proofs.TextualWhole.{text_back}
use Rattle.cex_json.proofs.WrittenWhole.{cex_back}
use Rattle.cex_json.proofs.laws.counterexample_law.Goals as goal

pub returns-clause-value : goal.returns-clause-value
returns-clause-value c = cex_back

pub returns-clause-text : goal.returns-clause-text
returns-clause-text c = text_back
