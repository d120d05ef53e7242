use Rattle.std.proofs.Common.{◌≡◌, fold, map}
use Rattle.std.specs.List.{range_with_len}
use Rattle.net_parts.specs.Exports.{router_id}
use Rattle.slot_places.specs.Values.{put_once}
use Rattle.held_values.proofs.values.put_ids.Given as goal

abbrev pub invariant-loop-router : goal.invariant-loop-router
invariant-loop-router l =
    l.held ≡ fold put_once l.fn.held (map (λ router. (router_id l.net.files router).0) (range_with_len 0 l.router))
