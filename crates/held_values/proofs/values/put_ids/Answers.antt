use Rattle.std.proofs.Common.{ap, ◌∙◌}
use Rattle.net_parts.specs.Exports.{router_id}
use Rattle.slot_places.specs.Values.{put_once}
use Rattle.held_values.proofs.Fields.{ids_more}
use Rattle.held_values.proofs.values.put_ids.Goals as goal

pub loop-router-preserved : goal.loop-router-preserved
loop-router-preserved c =
    let id = (router_id c.args.net.now.files c.loop-router.router).0 in
    c.in_ok-put_id.ensures
    ∙ ap (λ held. put_once held id) c.loop-router.invariant
    ∙ ids_more c.args.net.now.files c.args.held.now c.loop-router.router
