use Rattle.std.proofs.Common.{sym}
use Rattle.resolution_check.proofs.Texts.{cut_none, cut_here}
use Rattle.resolution_check.proofs.reading.cut_word.Goals as goal

pub returns-in-None : goal.returns-in-None
returns-in-None c = cut_none c.args.text.now (sym c.in-None.ensures)

pub returns-in-Some : goal.returns-in-Some
returns-in-Some c =
    rw (c.split_at.ensures.front, c.split_at-in-Some.ensures.back)
    (cut_here c.args.text.now c.in-Some.at (sym c.in-Some.ensures))
