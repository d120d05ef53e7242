use Rattle.std.proofs.Common.{◌≡◌, ◌*◌, take}
use Rattle.mw_outside.specs.Taken.{Takes}
use Rattle.resolution_check.specs.Text.{log_text}
use Rattle.cdcl_search.specs.Outcomes.{input_entries}
use Rattle.cdcl_search.proofs.logging.write_inputs.Given as goal

abbrev pub invariant-loop-piece : goal.invariant-loop-piece
invariant-loop-piece g l = record {
  takes : Takes (g.L.Sink.taken l.fn.log) (g.L.Sink.taken l.log)
      (log_text (input_entries 1 (take (l.piece * 512) l.clauses)));
  stays : g.L.Sink.faults l.log ≡ g.L.Sink.faults l.fn.log;
}
