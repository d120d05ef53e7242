use Rattle.std.proofs.Common.{◌≡◌, true, refl}
use Rattle.ios_policy_reader.specs.Words.{ports_of}
use Rattle.ios_policy_reader.specs.Edges.{said_by, said_back}
use Rattle.ios_policy_reader.specs.Least.{closes, opens, no_dead_end}
use Rattle.ios_policy_reader.proofs.Leasts.{least}
use Rattle.export_asks.specs.declared.forms.Form.{Form}
use Rattle.export_asks.specs.declared.forms.Form.TheVariants.{NoExport, NoLeak}
use Rattle.export_asks.specs.declared.table.TheConstants.{ASK}
use Rattle.export_asks.specs.Grammar.{form_number, words_said}
use Rattle.export_asks.proofs.laws.asks_law.Goals as goal

each : (form : Form) → no_dead_end ASK (form_number form) ≡ true
unfolding closes opens said_by said_back ports_of
each NoExport = refl
each NoLeak = refl

pub returns-clause-no_dead_end : goal.returns-clause-no_dead_end
returns-clause-no_dead_end c = each

pub returns-clause-first : goal.returns-clause-first
unfolding words_said
returns-clause-first c form words n e = least ASK (form_number form) (each form) 0 words n e
