use Rattle.std.proofs.Common.{sym, ◌∙◌, inl, inr}
use Rattle.std.proofs.lemmas.Bool.{false≢true}
use Rattle.resolution_check.specs.declared.log.Entry.TheVariants.{Delete}
use Rattle.resolution_check.specs.Earned.{MayFollow}
use Rattle.resolution_check.proofs.Goods.{each_last}
use Rattle.resolution_check.proofs.laws.spaced_law.Goals as goal

pub returns-clause-inputs : goal.returns-clause-inputs
returns-clause-inputs c = λ es id h. (each_last MayFollow es (Delete id) h).no_input

pub returns-clause-runs : goal.returns-clause-runs
returns-clause-runs c =
    λ es id h first. elim (each_last MayFollow es (Delete id) h).apart [
      | inl deleting ↦ absurd (false≢true (sym first ∙ deleting))
      | inr far ↦ far
    ]
