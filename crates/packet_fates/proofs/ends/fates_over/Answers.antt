use Rattle.std.proofs.Common.{sym, subst, ◌∙◌}
use Rattle.packet_fates.specs.Ends.{AreThose, IsEndOf}
use Rattle.packet_fates.proofs.Ending.{with_loop, without_loop}
use Rattle.packet_fates.proofs.ends.fates_over.Goals.{then-branch+in_ok-put_fate, else-branch}
use Rattle.packet_fates.proofs.ends.fates_over.Goals as goal

pub returns : goal.returns
returns c = elim c.if-branch.branch [
  | then-branch+in_ok-put_fate w ↦
      with_loop c.args.files.now c.args.all.now c.args.marks.now c.in_ok-out.out c.if-branch.out
      (w.out-is ∙ w.in_ok-put_fate.ensures) (c.in_ok-some_round.ensures.yes w.if-branch.true) c.in_ok-out.ensures
  | else-branch w ↦
      without_loop c.args.files.now c.args.all.now c.args.marks.now c.if-branch.out
      (c.in_ok-some_round.ensures.no w.if-branch.false)
      (subst (λ fs. AreThose (IsEndOf c.args.files.now c.args.all.now c.args.marks.now) fs) (sym w.out-is)
      c.in_ok-out.ensures)
]
