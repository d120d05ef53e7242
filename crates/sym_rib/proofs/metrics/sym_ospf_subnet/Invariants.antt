use Rattle.std.proofs.Common.{◌≡◌, ◌<◌, ◌&&◌, ◌||◌, drop}
use Rattle.std.specs.Prelude.{◌==◌}
use Rattle.std.specs.List.{list_any}
use Rattle.mw_text.specs.Address.{same_prefix}
use Rattle.net_parts.specs.Origins.{is_ospf_subnet}
use Rattle.sym_policy.specs.Records.{prefix_of}
use Rattle.term_store.specs.Terms.{Reading, at, size}
use Rattle.term_store.specs.Reading.{Reads, Builds}
use Rattle.sym_rib.proofs.metrics.sym_ospf_subnet.Given as goal

-- what is found so far, and the interfaces that are left
abbrev pub invariant-loop-x : goal.invariant-loop-x
invariant-loop-x l = record {
  builds : Builds l.fn.terms l.terms;
  within : l.any.0 < size l.terms;
  value : (w : Reading) → Reads w l.terms
      → (at w l.any || list_any (λ x. (x.at.id.router == l.router)
      && same_prefix x.at.subnet (prefix_of w l.dst l.len)) (drop l.x-index l.x-items))
      ≡ is_ospf_subnet l.net.files l.router (prefix_of w l.dst l.len);
}
