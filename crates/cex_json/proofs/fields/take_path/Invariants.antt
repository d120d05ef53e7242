use Rattle.std.proofs.Common.{◌≡◌, drop, []}
use Rattle.serde_json.specs.View.{items_view}
use Rattle.cex_json.specs.Fields.{in_order, asn_step}
use Rattle.cex_json.proofs.fields.take_path.Given as goal

-- what is read of the members that are left, behind those so far, is read of all
abbrev pub invariant-loop-member : goal.invariant-loop-member
invariant-loop-member l =
    in_order (asn_step l.at l.name) l.member-index l.numbers-inside.items.items
    (items_view (drop l.member-index l.members))
    ≡ in_order (asn_step l.at l.name) 0 [] (items_view l.members)
