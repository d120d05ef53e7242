use Rattle.std.proofs.Common.{◌≡◌, length, true}
use Rattle.std.specs.Prelude.{◌↔◌, All, Contains}
use Rattle.std.proofs.lemmas.List.Elements.{All-contains_itself, All-weaker}
use Rattle.std.proofs.lemmas.Result.{IfOk-weaker}
use Rattle.paired_nets.specs.declared.ends.EndPair.{EndPair}
use Rattle.paired_nets.specs.Ends.{AreOneEnd}
use Rattle.term_store.specs.declared.NodeId.{NodeId}
use Rattle.term_store.specs.Reading.{Reads}
use Rattle.term_store.specs.Terms.{Reading, at}
use Rattle.joined_terms.specs.Joining.{behind}
use Rattle.bgp_equations.specs.Environments.{environment_read}
use Rattle.peers_beside.specs.Same.{IsOnePeer}
use Rattle.peers_beside.specs.Shared.{AreCommonShapes}
use Rattle.peers_beside.proofs.WholeEnvironments.{peers_tell}
use Rattle.peers_beside.proofs.peers.same_peers.Goals as goal

pub are_one_peer-requires-clause-pairs : goal.are_one_peer-requires-clause-pairs
are_one_peer-requires-clause-pairs c =
    let sides = c.args.sides.now in
    All-weaker (Contains c.args.pairs.now)
    (λ (pair : EndPair). AreOneEnd sides.left.now.files sides.right.now.files pair.one pair.other)
    c.requires.pairs.sound c.args.pairs.now (All-contains_itself c.args.pairs.now)

pub returns-clause-value : goal.returns-clause-value
returns-clause-value c =
    let sides = c.args.sides.now in
    let left = sides.left.now.files in
    let right = sides.right.now.files in
    let lens = sides.lens.now in
    let u = behind sides.places.now in
    IfOk-weaker c.are_one_peer.result
    (λ (r : NodeId). (w : Reading) → Reads w c.are_one_peer.new.terms → at w r ≡ true
    ↔ All (IsOnePeer left right (length lens) w (u w) sides.a.now sides.b.now) c.args.pairs.now)
    (λ (r : NodeId). (w : Reading) → Reads w c.are_one_peer.new.terms → at w r ≡ true
    ↔ AreCommonShapes left right (environment_read w left lens sides.a.now)
    (environment_read (u w) right lens sides.b.now))
    (λ r tells w reads. peers_tell left right sides.left.now.tracked sides.right.now.tracked lens w (u w) sides.a.now
    sides.b.now c.args.pairs.now (at w r) c.requires.lens c.requires.fits c.requires.fits_too c.requires.pairs
    (tells w reads))
    c.are_one_peer.ensures.value
