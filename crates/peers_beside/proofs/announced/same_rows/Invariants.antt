use Rattle.std.proofs.Common.{◌≡◌, ◌<◌, map, take, true}
use Rattle.std.specs.Prelude.{◌↔◌}
use Rattle.term_store.specs.Terms.{Reading, at, size}
use Rattle.term_store.specs.Reading.{Reads, Builds}
use Rattle.joined_terms.specs.Joining.{behind}
use Rattle.peers_beside.specs.Same.{announced_by}
use Rattle.peers_beside.proofs.announced.same_rows.Given as goal

abbrev pub invariant-loop-i : goal.invariant-loop-i
invariant-loop-i l = record {
  builds : Builds l.fn.terms l.terms;
  within : l.all.0 < size l.terms;
  value : (w : Reading) → Reads w l.terms → at w l.all ≡ true
      ↔ map (announced_by w) (take l.i l.a) ≡ map (announced_by (behind l.places w)) (take l.i l.b);
}
