use Rattle.std.proofs.Common.{rules, length, sym, ap, ◌∙◌}
use Rattle.std.specs.Prelude.{slice_get}
use Rattle.mw_text.proofs.Lists.{each_place-push}
use Rattle.walk_def.proofs.AllHops.{IsSent, sent_here}
use Rattle.walk_def.proofs.hops.all_hops.Goals as goal

pub loop-at-preserved : goal.loop-at-preserved
loop-at-preserved c =
    let files = c.args.net.now.files in
    let before = c.loop-at.hops-inside.items.items in
    let here : IsSent files c.args.world.now (length before) c.in_ok-list_hops.field-0 =
    sent_here files c.args.world.now c.loop-at.at (length before) c.in_ok-list_hops.field-0
    c.in_ok-list_hops.ensures c.loop-at.invariant.0 in (
      search rules,
      λ k hops found. each_place-push
          (IsSent files c.args.world.now) before c.in_ok-list_hops.field-0 c.loop-at.invariant.1 here k hops
          (sym (ap (λ xs. slice_get xs k) c.in_ok-push.ensures.items) ∙ found),
    )
