use Rattle.ios_reader.proofs.LineByLine.{read_lines_refused}
use Rattle.ios_reader.proofs.reader.take_at.Goals as goal

pub returns-in-Err-clause-refused : goal.returns-in-Err-clause-refused
returns-in-Err-clause-refused c other =
    read_lines_refused c.args.draft.now c.in-Err.refused c.args.lines.now c.args.at c.index-lines-at.result
    c.requires.within c.index-lines-at.is
    (rw c.lines_after.ensures at c.in-Err.ensures.refused other)
