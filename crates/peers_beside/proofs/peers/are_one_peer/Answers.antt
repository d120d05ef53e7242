use Rattle.std.proofs.Common.{length}
use Rattle.std.proofs.lemmas.Option.{slice_get-get_or}
use Rattle.term_store.specs.Terms.{at}
use Rattle.joined_terms.specs.Joining.{behind}
use Rattle.bgp_equations.proofs.CandidateSteps.{builds_join}
use Rattle.peers_beside.specs.Same.{IsOnePeer}
use Rattle.peers_beside.proofs.AlikeRows.{all_more, all_whole}
use Rattle.peers_beside.proofs.peers.are_one_peer.Goals as goal

pub loop-pair-preserved : goal.loop-pair-preserved
loop-pair-preserved c =
    let before = c.loop-pair.invariant in
    let sides = c.args.sides.now in
    record {
      builds = builds_join _ _ _ before.builds (builds_join _ _ _ c.is_one_peer.ensures.builds c.both.ensures.builds);
      within = c.in_ok-all-2.ensures.within;
      value = λ w reads.
          let after_one = c.both.ensures.builds.reads w reads in
          let after_loop = c.is_one_peer.ensures.builds.reads w after_one in
          all_more
          (IsOnePeer sides.left.now.files sides.right.now.files (length sides.lens.now) w (behind sides.places.now w)
          sides.a.now sides.b.now) c.args.pairs.now c.loop-pair.pair-index _
          (at w c.loop-pair.all) (at w c.in_ok-one.one) (at w c.in_ok-all-2.all)
          (slice_get-get_or c.args.pairs.now c.loop-pair.pair-index _
          c.loop-pair-test.true) (before.value w after_loop) (c.in_ok-one.ensures.value w after_one)
          (c.in_ok-all-2.ensures.value w reads);
    }

pub returns-clause-value : goal.returns-clause-value
returns-clause-value c = λ w reads.
    let sides = c.args.sides.now in
    all_whole
    (IsOnePeer sides.left.now.files sides.right.now.files (length sides.lens.now) w (behind sides.places.now w)
    sides.a.now sides.b.now) c.args.pairs.now c.loop-pair.pair-index (at w c.loop-pair.all) c.loop-pair-test.false
    (c.loop-pair.invariant.value w reads)
