use Rattle.std.proofs.Common.{◌∙◌, ◌<◌, length, ap, arith, refl, sym}
use Rattle.machine_channels.specs.Changes.{changed, IsSmall, IsSmallChange}
use Rattle.machine_channels.proofs.Changing.{changing_start, changing_next, changing_end, small_here}
use Rattle.machine_channels.proofs.channels.change_all.Goals as goal

pub loop-at-init : goal.loop-at-init
loop-at-init g c = rw c.changes.view_is (changing_start c.args.channels.now c.args.changes c.requires.as_many)

pub apply-requires-clause-small : goal.apply-requires-clause-small
apply-requires-clause-small g c =
    small_here (λ x. IsSmall x) c.args.channels.now c.loop-at.channels c.loop-at.at _ c.index-channels-at.result c.requires.small c.loop-at-test.true refl
    (c.loop-at.invariant.rest c.loop-at.at c.index-channels-at.result (omega arith))

pub apply-requires-clause-small_change : goal.apply-requires-clause-small_change
apply-requires-clause-small_change g c =
    let lt : c.loop-at.at < length c.args.changes = omega (arith, c.requires.as_many, c.loop-at-test.true) in
    small_here (λ x. IsSmallChange x) c.args.changes c.loop-at.changes-inside.items.items c.loop-at.at c.replace-by.result c.index_mut.result.now
    c.requires.small_changes lt (c.replace-by.ensures.value ∙ c.index_mut.ensures.value)
    (c.loop-at.invariant.more c.loop-at.at c.index_mut.result.now (omega arith))

pub loop-at-preserved : goal.loop-at-preserved
loop-at-preserved g c =
    changing_next c.args.channels.now c.args.changes c.loop-at.at c.loop-at.channels c.loop-at.changes-inside.items.items
    c.index-channels-at.result c.apply.new.channel c.replace-by.result c.replace-by.new.dest c.loop-at.invariant c.loop-at-test.true
    c.index-channels-at.is
    (let e = c.replace-by.ensures.value in let f = c.index_mut.ensures.value in rw e f) (c.apply.ensures ∙ ap (λ z. changed c.replace-by.result z) (sym c.index-channels-at.is))

pub returns : goal.returns
returns g c =
    changing_end c.args.channels.now c.args.changes c.loop-at.at c.loop-at.channels c.loop-at.changes-inside.items.items
    c.loop-at.invariant (omega arith)
