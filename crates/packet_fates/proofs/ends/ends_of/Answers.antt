use Rattle.std.proofs.Common.{arith, sym, ap, subst, refl, ◌∙◌}
use Rattle.std.specs.Prelude.{fold, length}
use Rattle.std.proofs.lemmas.Option.{slice_get_read}
use Rattle.packet_fates.specs.Ends.{AreThose, put_hop}
use Rattle.packet_fates.proofs.Ending.{IsEndBelow, all_ends, none_below, put_router, skip_router}
use Rattle.packet_fates.proofs.Spreading.{hops_are}
use Rattle.packet_fates.proofs.ends.ends_of.Goals.{then-is_known+in_ok-put_hops, else-is_known}
use Rattle.packet_fates.proofs.ends.ends_of.Goals as goal

pub loop-at-preserved : goal.loop-at-preserved
loop-at-preserved c = elim c.if-is_known.branch [
  | then-is_known+in_ok-put_hops w ↦
      let files = c.args.files.now in
      let all = c.args.all.now in
      let at = c.loop-at.at in
      let file = c.index-files-at.result in
      let own = w.index-all-at.result in
      let there = slice_get_read files (length files) at file refl c.loop-at-test.true c.index-files-at.is in
      let found = slice_get_read all (length all) at own refl (omega (arith, c.requires.same, c.loop-at-test.true))
      w.index-all-at.is in
      put_router files all c.args.marks.now at file own c.loop-at.out c.if-is_known.out
      (sym c.is_known.ensures ∙ w.if-is_known.true) there (hops_are all at own found)
      (w.out-is ∙ w.in_ok-put_hops.ensures
      ∙ ap (λ name. fold (put_hop name) c.loop-at.out w.as_slice-then-is_known.result.now) w.as_slice.ensures
      ∙ ap (λ hops. fold (put_hop file.hostname) c.loop-at.out hops) w.as_slice-then-is_known.ensures)
      c.loop-at.invariant
  | else-is_known w ↦
      skip_router c.args.files.now c.args.all.now c.args.marks.now c.loop-at.at c.if-is_known.out
      (sym c.is_known.ensures ∙ w.if-is_known.false)
      (subst (λ fs. AreThose (IsEndBelow c.args.files.now c.args.all.now c.args.marks.now c.loop-at.at) fs)
      (sym w.out-is) c.loop-at.invariant)
]

pub returns : goal.returns
returns c =
    all_ends c.args.files.now c.args.all.now c.args.marks.now c.loop-at.at c.loop-at.out
    (omega (arith, c.loop-at-test.false)) c.loop-at.invariant

pub loop-at-init : goal.loop-at-init
loop-at-init c = none_below c.args.files.now c.args.all.now c.args.marks.now c.new-out.result c.new-out.ensures
