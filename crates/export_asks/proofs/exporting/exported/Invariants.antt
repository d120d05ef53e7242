use Rattle.export_asks.specs.Exported.{is_exported}
use Rattle.export_asks.proofs.Leasts.{NoneBelow}
use Rattle.export_asks.proofs.exporting.exported.Given as goal

abbrev pub invariant-loop-len : goal.invariant-loop-len
invariant-loop-len l = NoneBelow (is_exported l.net.files l.ask l.d l.failures l.tables) l.len
