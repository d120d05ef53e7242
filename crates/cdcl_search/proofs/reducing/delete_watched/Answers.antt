use Rattle.std.proofs.Common.{◌∙◌}
use Rattle.mw_text.proofs.Results.{on_err}
use Rattle.cdcl_search.proofs.Downs.{cuts_then, down_then}
use Rattle.cdcl_search.proofs.reducing.delete_watched.Goals as goal

pub returns-in_err-delete_clause-clause-cut : goal.returns-in_err-delete_clause-clause-cut
returns-in_err-delete_clause-clause-cut g c =
    on_err _
    (cuts_then (g.L.Sink.taken c.args.log.now) (g.L.Sink.taken c.loop.log) (g.L.Sink.taken c.delete_clause.new.log)
    c.args.arena.now c.loop.arena c.args.reduction.first c.args.reduction.added c.loop.invariant.down
    c.in_err-delete_clause.ensures.cut)

pub loop-preserved : goal.loop-preserved
loop-preserved g c = record {
  ready = c.in_ok-delete_clause.ensures.ready;
  down = down_then (g.L.Sink.taken c.args.log.now) (g.L.Sink.taken c.loop.log)
      (g.L.Sink.taken c.delete_clause.new.log) c.args.arena.now c.loop.arena c.delete_clause.new.arena c.args.reduction.first
      c.args.reduction.added c.loop.invariant.down c.in_ok-delete_clause.ensures.down;
  stays = c.in_ok-delete_clause.ensures.stays ∙ c.loop.invariant.stays;
}
