use Rattle.std.proofs.Common.{◌≡◌, drop, filter, map, ◌&&◌, None}
use Rattle.std.specs.Prelude.{◌==◌, fold}
use Rattle.mw_text.specs.Address.{same_prefix}
use Rattle.net_parts.specs.Ospf.{advertisement, ospf_interfaces}
use Rattle.net_parts.specs.World.{is_up}
use Rattle.proto_ospf.specs.Rounds.{lower}
use Rattle.proto_ospf.proofs.distances.own_cost.Given as goal

-- the least so far, with the interfaces that are left, is the least of all
abbrev pub invariant-loop-x : goal.invariant-loop-x
invariant-loop-x l =
    fold lower l.best (map (λ x. x.cost) (filter (λ x. (x.at.id.router == l.router)
    && (same_prefix (advertisement x) l.p && is_up l.net.files l.failures x.at)) (drop l.x-index (ospf_interfaces l.net.files))))
    ≡ fold lower None (map (λ x. x.cost) (filter (λ x. (x.at.id.router == l.router)
    && (same_prefix (advertisement x) l.p && is_up l.net.files l.failures x.at)) (ospf_interfaces l.net.files)))
