use Rattle.std.proofs.Common.{[], length, ◌≤◌}
use Rattle.mw_text.proofs.Reading.{ReadTo}
use Rattle.question_lang.specs.Asking.{next_asked}
use Rattle.question_lang.specs.declared.reader.TheConstants.{MOST_QUESTIONS}
use Rattle.question_lang.specs.Known.{AreKnown}
use Rattle.question_lang.proofs.reader.read_all.Given as goal

-- the questions so far are those of the lines so far; all that they name is there, and there are not too many
abbrev pub invariant-loop-line : goal.invariant-loop-line
invariant-loop-line l =
    ReadTo (next_asked l.net.files) [] l.lines l.line-index l.questions × AreKnown l.net.files l.questions ×
    (length l.questions ≤ MOST_QUESTIONS)
