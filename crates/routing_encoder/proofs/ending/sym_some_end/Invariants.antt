use Rattle.std.proofs.Common.{◌≡◌, ◌<◌, ◌||◌, drop}
use Rattle.std.specs.List.{list_any}
use Rattle.term_store.specs.Terms.{Reading, at, size}
use Rattle.term_store.specs.Reading.{Reads, Builds}
use Rattle.routing_encoder.specs.Ending.{may_end_read}
use Rattle.routing_encoder.proofs.ending.sym_some_end.Given as goal

-- a walk may end at a router so far, or at one that is left, exactly where it may at one of all
abbrev pub invariant-loop-forwarding : goal.invariant-loop-forwarding
invariant-loop-forwarding l = record {
  builds : Builds l.fn.terms l.terms;
  within : l.any.0 < size l.terms;
  value : (w : Reading) → Reads w l.terms →
      (at w l.any || list_any (may_end_read w) (drop l.forwarding-index l.table)) ≡ list_any (may_end_read w) l.table;
}
