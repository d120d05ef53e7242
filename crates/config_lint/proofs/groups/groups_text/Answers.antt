use Rattle.std.proofs.Common.{◌∙◌, sym, arith}
use Rattle.config_lint.proofs.Places.{groups_next, groups_done}
use Rattle.config_lint.proofs.groups.groups_text.Goals as goal

pub loop-at-preserved : goal.loop-at-preserved
loop-at-preserved c =
    groups_next c.args.entries.now c.args.entries.now c.loop-at.at c.loop-at.text c.in_ok-group.group
    c.put_piece.new.text c.index-entries-at.result (omega arith) c.index-entries-at.is c.in_ok-group.ensures
    (cc (c.in_ok-put_piece.ensures, c.as_slice.ensures)) ∙ c.loop-at.invariant

pub returns : goal.returns
returns c =
    sym (groups_done c.args.entries.now c.args.entries.now c.loop-at.at c.loop-at.text (omega arith))
    ∙ c.loop-at.invariant
