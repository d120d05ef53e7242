use Rattle.std.proofs.Common.{refl}
use Rattle.std.proofs.lemmas.Option.{slice_get_within}
use Rattle.term_store.proofs.Growth.{Builds-Puts, Reads-at, Stands-from}
use Rattle.term_store.proofs.Terms.add.Goals as goal

pub returns-clause-builds : goal.returns-clause-builds
returns-clause-builds c = rw (← c.self.view_is) (Builds-Puts _ _ c.args.node c.in_ok-index.ensures.puts refl)

pub returns-clause-within : goal.returns-clause-within
returns-clause-within c = slice_get_within _ _ c.args.node c.in_ok-index.ensures.stands

pub returns-clause-value : goal.returns-clause-value
returns-clause-value c = λ w reads. Reads-at w _ _ c.args.node reads c.in_ok-index.ensures.stands

pub returns-clause-stands : goal.returns-clause-stands
returns-clause-stands c = Stands-from _ _ c.args.node c.in_ok-index.ensures.stands
