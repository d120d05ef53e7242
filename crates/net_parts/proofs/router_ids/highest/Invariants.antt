use Rattle.std.proofs.Common.{◌≡◌, drop, map}
use Rattle.std.specs.Prelude.{fold, max}
use Rattle.net_parts.proofs.router_ids.highest.Given as goal

-- the best so far, with those that are left, decides
abbrev pub invariant-loop-x : goal.invariant-loop-x
invariant-loop-x l =
    fold (λ best a. record { 0 = max best.0 a.0 }) l.best (map (λ x. x.addr) (drop l.x-index l.interfaces))
    ≡ fold (λ best a. record { 0 = max best.0 a.0 }) (record { 0 = 0 }) (map (λ x. x.addr) l.interfaces)
