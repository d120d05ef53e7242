use Rattle.config_lint.proofs.Marks.{leaves}
use Rattle.config_lint.proofs.asides.leave_aside.Goals as goal

pub returns : goal.returns
returns c =
    leaves c.args.lines.now c.args.n c.index-lines-n.result c.size_of_block.result c.args.flags.now
    c.mark_with.new.flags c.requires.some c.requires.within c.index-lines-n.is c.size_of_block.ensures.value
    c.mark_with.ensures
