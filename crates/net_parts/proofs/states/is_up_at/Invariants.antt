use Rattle.std.proofs.Common.{◌≡◌, drop, ◌&&◌}
use Rattle.std.specs.Prelude.{◌==◌}
use Rattle.std.specs.List.{list_any}
use Rattle.net_parts.specs.World.{is_up}
use Rattle.net_parts.proofs.states.is_up_at.Given as goal

-- the interfaces that are left decide
abbrev pub invariant-loop-x : goal.invariant-loop-x
invariant-loop-x l =
    list_any (λ x. ((x.id.router == l.i.router) && (x.id.at == l.i.at)) && is_up l.files l.failures x) l.addresses
    ≡ list_any (λ x. ((x.id.router == l.i.router) && (x.id.at == l.i.at)) && is_up l.files l.failures x)
    (drop l.x-index l.addresses)
