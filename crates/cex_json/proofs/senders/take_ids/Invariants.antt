use Rattle.std.proofs.Common.{◌≡◌, drop, []}
use Rattle.serde_json.specs.View.{items_view}
use Rattle.cex_json.specs.Fields.{in_order}
use Rattle.cex_json.specs.Surroundings.{peer_step}
use Rattle.cex_json.proofs.senders.take_ids.Given as goal

-- what is read of the entries that are left, behind those so far, is read of all
abbrev pub invariant-loop-place : goal.invariant-loop-place
invariant-loop-place l =
    in_order (peer_step l.net.files l.format l.ends) l.place l.ids-inside.items.items (items_view (drop l.place l.members))
    ≡ in_order (peer_step l.net.files l.format l.ends) 0 [] (items_view l.members)
