use Rattle.std.proofs.Common.{◌≡◌, ◌-◌, length}
use Rattle.export_asks.specs.Exported.{trace, traced}
use Rattle.export_asks.proofs.tracing.trace.Given as goal

-- the steps that are left decide
abbrev pub invariant-loop-seen : goal.invariant-loop-seen
invariant-loop-seen l =
    trace l.net.files l.tables l.len l.router
    ≡ traced l.net.files l.tables l.len (length l.net.files - l._seen) l.at
