use Rattle.std.proofs.Common.{◌≡◌, ◌+◌}
use Rattle.cdcl_search.specs.Going.{IsReady}
use Rattle.cdcl_search.specs.Reductions.{GoesDown}
use Rattle.cdcl_search.proofs.reducing.delete_watched.Given as goal

abbrev pub invariant-loop : goal.invariant-loop
invariant-loop g l = record {
  ready : IsReady l.arena l.assigned (l.fn.reduction.first + l.fn.reduction.added) l.fn.reduction.from;
  down : GoesDown (g.L.Sink.taken l.fn.log) (g.L.Sink.taken l.log) l.fn.arena l.arena l.fn.reduction.first l.fn.reduction.added;
  stays : g.L.Sink.faults l.log ≡ g.L.Sink.faults l.fn.log;
}
