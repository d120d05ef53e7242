use Rattle.std.proofs.Common.{◌≡◌, ◌<◌, take}
use Rattle.std.specs.List.{list_all}
use Rattle.term_store.specs.Terms.{Reading, at, size}
use Rattle.term_store.specs.Reading.{Reads, Builds}
use Rattle.term_arith.proofs.lists.all_of.Given as goal

abbrev pub invariant-loop-id : goal.invariant-loop-id
invariant-loop-id l = record {
  builds : Builds l.fn.terms l.terms;
  within : l.all.0 < size l.terms;
  value : (w : Reading) → Reads w l.terms → at w l.all ≡ list_all (at w) (take l.id-index l.ids);
}
