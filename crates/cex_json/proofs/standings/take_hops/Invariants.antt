use Rattle.std.proofs.Common.{◌≡◌, drop, []}
use Rattle.serde_json.specs.View.{items_view}
use Rattle.cex_json.specs.Fields.{in_order}
use Rattle.cex_json.specs.Standings.{hop_step}
use Rattle.cex_json.proofs.standings.take_hops.Given as goal

-- what is read of the entries that are left, behind those so far, is read of all
abbrev pub invariant-loop-place : goal.invariant-loop-place
invariant-loop-place l =
    in_order (hop_step l.net.files) l.place l.hops (items_view (drop l.place l.members))
    ≡ in_order (hop_step l.net.files) 0 [] (items_view l.members)
