use Rattle.std.proofs.Common.{ap, ◌∙◌}
use Rattle.std.proofs.Math.Seq.{map-set_same}
use Rattle.watched_search.proofs.deciding.pick_at.Goals as goal

pub returns-clause-told : goal.returns-clause-told
returns-clause-told g c =
    map-set_same (λ b. (goal.Decider-dyn g (b.vtable, b.value)).told b.value) c.args.deciders.now.items c.args.at
    c.pick.new.decider _
    (c.pick.ensures ∙ ap (λ b. (goal.Decider-dyn g (b.vtable, b.value)).told b.value) c.index_mut.ensures.value)
