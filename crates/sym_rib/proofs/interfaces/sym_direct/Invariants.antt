use Rattle.std.proofs.Common.{◌≡◌, ◌<◌, ◌&&◌, ◌||◌, drop, filter}
use Rattle.std.specs.Prelude.{◌==◌}
use Rattle.std.specs.List.{list_any}
use Rattle.mw_text.specs.Address.{same_prefix}
use Rattle.net_parts.specs.Routing.{is_direct, up_interfaces}
use Rattle.net_parts.specs.World.{is_up}
use Rattle.sym_policy.specs.Held.{failures_of}
use Rattle.sym_policy.specs.Records.{prefix_of}
use Rattle.term_store.specs.Terms.{Reading, at, size}
use Rattle.term_store.specs.Reading.{Reads, Builds}
use Rattle.sym_rib.proofs.interfaces.sym_direct.Given as goal

-- what is found so far, and the interfaces that are left
abbrev pub invariant-loop-x : goal.invariant-loop-x
invariant-loop-x l = record {
  builds : Builds l.fn.terms l.terms;
  within : l.any.0 < size l.terms;
  value : (w : Reading) → Reads w l.terms
      → (at w l.any || list_any (λ x. same_prefix x.subnet (prefix_of w l.dst l.len))
      (filter (λ x. (x.id.router == l.router) && is_up l.net.files (failures_of w l.sym) x)
      (drop l.x-index l.x-items)))
      ≡ is_direct (up_interfaces l.net.files (failures_of w l.sym) l.router) (prefix_of w l.dst l.len);
}
