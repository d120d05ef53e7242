use Rattle.std.proofs.Common.{◌≡◌, ◌≤◌, ◌<◌, ◌&&◌, All, drop}
use Rattle.term_store.specs.Terms.{Reading, at, size}
use Rattle.term_store.specs.Reading.{Reads, Builds}
use Rattle.net_parts.specs.Sessions.{ends_of}
use Rattle.sym_policy.specs.Held.{bgp_end, bgp_of}
use Rattle.sym_rib.specs.Into.{list_end}
use Rattle.bgp_equations.specs.Environments.{HasLists}
use Rattle.routing_encoder.specs.Announced.{may_come, rows_pass}
use Rattle.routing_encoder.proofs.announced.sym_rows.Given as goal

-- those so far pass and those that are left do, exactly where all do
abbrev pub invariant-loop-end : goal.invariant-loop-end
invariant-loop-end l = record {
  builds : Builds l.fn.terms l.terms;
  within : l.all.0 < size l.terms;
  lists : All (HasLists l.net.tracked) l.rest;
  nodes : list_end bgp_end l.rest ≤ size l.terms;
  value : (w : Reading) → Reads w l.terms →
      (at w l.all && rows_pass (λ line s. may_come l.net.tracked line (bgp_of w s)) l.net.files l.count
      (drop l.end-index (ends_of l.net.files)) l.rest)
      ≡ rows_pass (λ line s. may_come l.net.tracked line (bgp_of w s)) l.net.files l.count
      (ends_of l.net.files) l.fn.announced;
}
