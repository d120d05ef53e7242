use Rattle.std.proofs.Common.{◌≡◌, true, refl}
use Rattle.ios_policy_reader.specs.Words.{ports_of}
use Rattle.ios_policy_reader.specs.Edges.{said_by, said_back}
use Rattle.ios_policy_reader.specs.Least.{closes, opens, no_dead_end}
use Rattle.ios_policy_reader.proofs.Leasts.{least}
use Rattle.question_lang.specs.declared.forms.Form.{Form}
use Rattle.question_lang.specs.declared.forms.Form.TheVariants.{Reach, Isolate, Waypoint, NoLoop, NoBlackHole}
use Rattle.question_lang.specs.declared.forms.Form.TheVariants.{Within, Alike, NoStable}
use Rattle.question_lang.specs.declared.table.TheConstants.{QUESTION}
use Rattle.question_lang.specs.Grammar.{form_number, words_said}
use Rattle.question_lang.proofs.laws.questions_law.Goals as goal

each : (form : Form) → no_dead_end QUESTION (form_number form) ≡ true
unfolding closes opens said_by said_back ports_of
each Reach = refl
each Isolate = refl
each Waypoint = refl
each NoLoop = refl
each NoBlackHole = refl
each Within = refl
each Alike = refl
each NoStable = refl

pub returns-clause-no_dead_end : goal.returns-clause-no_dead_end
returns-clause-no_dead_end c = each

pub returns-clause-first : goal.returns-clause-first
unfolding words_said
returns-clause-first c form words n e = least QUESTION (form_number form) (each form) 0 words n e
