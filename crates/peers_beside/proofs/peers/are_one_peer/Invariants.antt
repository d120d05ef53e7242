use Rattle.std.proofs.Common.{◌≡◌, ◌<◌, length, take, true}
use Rattle.std.specs.Prelude.{◌↔◌, All}
use Rattle.term_store.specs.Terms.{Reading, at, size}
use Rattle.term_store.specs.Reading.{Reads, Builds}
use Rattle.joined_terms.specs.Joining.{behind}
use Rattle.peers_beside.specs.Same.{IsOnePeer}
use Rattle.peers_beside.proofs.peers.are_one_peer.Given as goal

abbrev pub invariant-loop-pair : goal.invariant-loop-pair
invariant-loop-pair l = record {
  builds : Builds l.fn.terms l.terms;
  within : l.all.0 < size l.terms;
  value : (w : Reading) → Reads w l.terms → at w l.all ≡ true
      ↔ All (IsOnePeer l.sides.left.now.files l.sides.right.now.files (length l.sides.lens.now) w
      (behind l.sides.places.now w) l.sides.a.now l.sides.b.now) (take l.pair-index l.pairs);
}
