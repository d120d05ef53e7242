use Rattle.std.proofs.Common.{◌≡◌, drop, []}
use Rattle.serde_json.specs.View.{items_view}
use Rattle.cex_json.specs.Fields.{in_order}
use Rattle.cex_json.specs.Surroundings.{link_step}
use Rattle.cex_json.proofs.surroundings.take_links.Given as goal

-- what is read of the links that are left, behind those so far, is read of all
abbrev pub invariant-loop-member : goal.invariant-loop-member
invariant-loop-member l =
    in_order (link_step l.links) l.member-index l.places (items_view (drop l.member-index l.members))
    ≡ in_order (link_step l.links) 0 [] (items_view l.members)
