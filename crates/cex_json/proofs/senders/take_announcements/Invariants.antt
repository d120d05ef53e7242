use Rattle.std.proofs.Common.{◌≡◌, drop, []}
use Rattle.serde_json.specs.View.{items_view}
use Rattle.cex_json.specs.Fields.{in_order}
use Rattle.cex_json.specs.Surroundings.{announcement_step}
use Rattle.cex_json.proofs.senders.take_announcements.Given as goal

-- what is read of the entries that are left, behind those so far, is read of all
abbrev pub invariant-loop-place : goal.invariant-loop-place
invariant-loop-place l =
    in_order (announcement_step l.net.files) l.place l.announced (items_view (drop l.place l.members))
    ≡ in_order (announcement_step l.net.files) 0 [] (items_view l.members)
