use Rattle.std.proofs.Common.{◌≡◌, ◌++◌, drop, filter, map, ◌&&◌}
use Rattle.std.specs.Prelude.{◌==◌}
use Rattle.mw_text.specs.Address.{same_prefix}
use Rattle.net_parts.specs.Ospf.{advertisement, ospf_interfaces}
use Rattle.net_parts.specs.World.{is_up}
use Rattle.route_record.specs.declared.OspfKind.TheVariants.{Internal}
use Rattle.route_candidates.specs.Origins.{internal_origins}
use Rattle.route_candidates.proofs.own.internal_origins.Given as goal

-- the origins so far, with those of the interfaces that are left, are all
abbrev pub invariant-loop-x : goal.invariant-loop-x
invariant-loop-x l =
    l.made-inside.items.items
    ++ map (λ x. record { kind = Internal; metric = 0; cost = x.cost }) (filter (λ x. (x.at.id.router == l.router)
    && (same_prefix (advertisement x) l.p && is_up l.net.files l.failures x.at))
    (drop l.x-index (ospf_interfaces l.net.files)))
    ≡ internal_origins l.net.files l.failures l.router l.p
