use Rattle.std.proofs.Common.{arith, sym, refl, ◌∙◌}
use Rattle.std.proofs.lemmas.Option.{slice_get_read}
use Rattle.std.specs.Prelude.{length}
use Rattle.packet_fates.proofs.Spreading.{closed_more, closed_whole, hops_are, new_led, skip_unmarked}
use Rattle.packet_fates.proofs.reaching.next_reached.Goals.{then-is_known+else-is_some, else-is_known}
use Rattle.packet_fates.proofs.reaching.next_reached.Goals as goal

pub returns-then-is_some-clause-some : goal.returns-then-is_some-clause-some
returns-then-is_some-clause-some c =
    let all = c.args.all.now in
    let own = c.index-all-at.result in
    let found = slice_get_read all (length all) c.loop-at.at own refl c.loop-at-test.true c.index-all-at.is in
    new_led all c.args.marks.now c.loop-at.at c.as_slice.result.now c.new_among-found.result
    (sym c.is_known.ensures ∙ c.if-is_known.true)
    (hops_are all c.loop-at.at own found ∙ sym c.as_slice.ensures) c.new_among-found.ensures.some

pub loop-at-preserved : goal.loop-at-preserved
loop-at-preserved c = elim c.if-is_known.branch [
  | then-is_known+else-is_some w ↦
      let all = c.args.all.now in
      let own = c.index-all-at.result in
      let found = slice_get_read all (length all) c.loop-at.at own refl c.loop-at-test.true c.index-all-at.is in
      closed_more all c.args.marks.now c.loop-at.at w.as_slice.result.now w.new_among-found.result
      (hops_are all c.loop-at.at own found ∙ sym w.as_slice.ensures)
      (sym w.is_some.ensures ∙ w.if-is_some.false) w.new_among-found.ensures.none c.loop-at.invariant
  | else-is_known w ↦ skip_unmarked c.args.all.now c.args.marks.now c.loop-at.at
      (sym c.is_known.ensures ∙ w.if-is_known.false) c.loop-at.invariant
]

pub returns-clause-none : goal.returns-clause-none
returns-clause-none c =
    closed_whole c.args.all.now c.args.marks.now c.loop-at.at (omega (arith, c.loop-at-test.false)) c.loop-at.invariant
