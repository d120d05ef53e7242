use Rattle.std.proofs.Common.{◌≡◌, ◌<◌, ◌&&◌, ◌||◌, drop, filter}
use Rattle.std.specs.Prelude.{◌==◌}
use Rattle.std.specs.List.{list_any}
use Rattle.net_parts.specs.Routing.{up_interfaces}
use Rattle.net_parts.specs.World.{is_up}
use Rattle.sym_policy.specs.Held.{failures_of}
use Rattle.term_arith.specs.Bits.{number}
use Rattle.term_store.specs.Terms.{Reading, at, size}
use Rattle.term_store.specs.Reading.{Reads, Builds}
use Rattle.sym_forwarding.proofs.own.sym_own.Given as goal

-- what is found so far, and the interfaces that are left
abbrev pub invariant-loop-x : goal.invariant-loop-x
invariant-loop-x l = record {
  builds : Builds l.fn.terms l.terms;
  within : l.any.0 < size l.terms;
  value : (w : Reading) → Reads w l.terms
      → (at w l.any || list_any (λ x. x.addr.0 == number w l.a.nodes.items)
      (filter (λ x. (x.id.router == l.router) && is_up l.net.files (failures_of w l.sym) x)
      (drop l.x-index l.x-items)))
      ≡ list_any (λ x. x.addr.0 == number w l.a.nodes.items) (up_interfaces l.net.files (failures_of w l.sym) l.router);
}
