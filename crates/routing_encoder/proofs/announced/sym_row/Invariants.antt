use Rattle.std.proofs.Common.{◌≡◌, ◌<◌, ◌&&◌, drop}
use Rattle.std.specs.List.{list_all}
use Rattle.std.specs.Option.{option_copied}
use Rattle.term_store.specs.Terms.{Reading, at, size}
use Rattle.term_store.specs.Reading.{Reads, Builds}
use Rattle.sym_policy.specs.Held.{bgp_of}
use Rattle.routing_encoder.specs.Announced.{may_come}
use Rattle.routing_encoder.proofs.announced.sym_row.Given as goal

-- those so far pass and those that are left do, exactly where all do
abbrev pub invariant-loop-i : goal.invariant-loop-i
invariant-loop-i l = record {
  builds : Builds l.fn.terms l.terms;
  within : l.all.0 < size l.terms;
  value : (w : Reading) → Reads w l.terms →
      (at w l.all && list_all (λ s. may_come l.tracked (option_copied l.line) (bgp_of w s)) (drop l.i l.row))
      ≡ list_all (λ s. may_come l.tracked (option_copied l.line) (bgp_of w s)) l.row;
}
