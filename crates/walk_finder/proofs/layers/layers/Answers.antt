use Rattle.std.proofs.Common.{◌∷◌, ◌++◌, [], ap, ◌∙◌}
use Rattle.walk_finder.proofs.Marked.{layers_begin, layers_more}
use Rattle.walk_finder.proofs.layers.layers.Goals as goal

pub loop-at-init : goal.loop-at-init
loop-at-init c =
    let first = c.in_ok-first.first in
    layers_begin c.args.to_ends c.args.rows.now first c.push.new.self.items c.in_ok-first.ensures
    (c.in_ok-push.ensures.items ∙ ap (λ xs. xs ++ first ∷ []) (c.all.view_is ∙ c.new-all.ensures))

pub loop-at-preserved : goal.loop-at-preserved
loop-at-preserved c =
    let next = c.in_ok-next.next in
    layers_more c.args.to_ends c.args.rows.now c.loop-at.at c.loop-at.all c.as_slice.result.now
    c.push-in-loop-at.new.self.items next c.loop-at.invariant c.as_slice.ensures c.in_ok-next.ensures
    (c.in_ok-push-2.ensures.items ∙ ap (λ xs. xs ++ next ∷ []) c.all-in-loop-at.view_is)
