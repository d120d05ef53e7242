use Rattle.std.proofs.Common.{◌≡◌, ◌<◌, ◌&&◌, drop}
use Rattle.std.specs.List.{list_all}
use Rattle.term_store.specs.Terms.{Reading, at, size}
use Rattle.term_store.specs.Reading.{Reads, Builds}
use Rattle.routing_encoder.specs.Looping.{is_interior_read}
use Rattle.routing_encoder.proofs.looping.sym_all_interior.Given as goal

-- the entries so far are interior and those that are left are, exactly where all are
abbrev pub invariant-loop-slot : goal.invariant-loop-slot
invariant-loop-slot l = record {
  builds : Builds l.fn.terms l.terms;
  within : l.all.0 < size l.terms;
  value : (w : Reading) → Reads w l.terms →
      (at w l.all && list_all (is_interior_read w) (drop l.slot-index l.slots)) ≡ list_all (is_interior_read w) l.slots;
}
