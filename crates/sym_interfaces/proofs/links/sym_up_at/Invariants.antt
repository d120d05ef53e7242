use Rattle.std.proofs.Common.{◌≡◌, ◌<◌, take}
use Rattle.std.specs.Prelude.{◌==◌, ◌&&◌}
use Rattle.std.specs.List.{list_any}
use Rattle.term_store.specs.Terms.{Reading, at, size}
use Rattle.term_store.specs.Reading.{Reads, Builds}
use Rattle.net_interfaces.specs.Interfaces.{addressed}
use Rattle.net_parts.specs.World.{is_up}
use Rattle.sym_policy.specs.Held.{failures_of}
use Rattle.sym_interfaces.proofs.links.sym_up_at.Given as goal

abbrev pub invariant-loop-x : goal.invariant-loop-x
invariant-loop-x l = record {
  builds : Builds l.fn.terms l.terms;
  within : l.any.0 < size l.terms;
  value : (w : Reading) → Reads w l.terms → at w l.any
      ≡ list_any (λ x. ((x.id.router == l.i.router) && (x.id.at == l.i.at)) && is_up l.net.files (failures_of w l.sym) x)
      (take l.x-index (addressed l.net.files));
}
