use Rattle.std.proofs.Common.{[], length, ◌≤◌}
use Rattle.mw_text.proofs.Reading.{ReadTo}
use Rattle.same_asks.specs.Asking.{AreKnown, next_asked}
use Rattle.same_asks.specs.declared.reader.TheConstants.{MOST_ASKS}
use Rattle.same_asks.proofs.reader.read_all.Given as goal

-- the asks so far are those of the lines so far; their routers are there, and there are not too many
abbrev pub invariant-loop-line : goal.invariant-loop-line
invariant-loop-line l =
    ReadTo (next_asked l.left.files l.right.files) [] l.lines l.line-index l.asks
    × AreKnown l.left.files l.right.files l.asks × (length l.asks ≤ MOST_ASKS)
