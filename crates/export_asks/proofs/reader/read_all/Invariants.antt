use Rattle.std.proofs.Common.{[], length, ◌≤◌}
use Rattle.mw_text.proofs.Reading.{ReadTo}
use Rattle.export_asks.specs.Asking.{next_asked}
use Rattle.export_asks.specs.declared.reader.TheConstants.{MOST_ASKS}
use Rattle.export_asks.proofs.reader.read_all.Given as goal

-- the asks so far are those of the lines so far, and there are not too many
abbrev pub invariant-loop-line : goal.invariant-loop-line
invariant-loop-line l =
    ReadTo (next_asked l.net.files) [] l.lines l.line-index l.asks × (length l.asks ≤ MOST_ASKS)
