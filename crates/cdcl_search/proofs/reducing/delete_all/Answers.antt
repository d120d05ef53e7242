use Rattle.std.proofs.Common.{◌∙◌}
use Rattle.mw_text.proofs.Results.{on_err}
use Rattle.cdcl_search.proofs.Downs.{cuts_then, down_then}
use Rattle.cdcl_search.proofs.reducing.delete_all.Goals as goal

pub returns-in_err-delete_watched-clause-cut : goal.returns-in_err-delete_watched-clause-cut
returns-in_err-delete_watched-clause-cut g c =
    on_err _
    (cuts_then (g.L.Sink.taken c.args.log.now) (g.L.Sink.taken c.loop-code.log)
    (g.L.Sink.taken c.delete_watched.new.log) c.args.arena.now c.loop-code.arena c.args.reduction.first c.args.reduction.added
    c.loop-code.invariant.down c.in_err-delete_watched.ensures.cut)

pub loop-code-preserved : goal.loop-code-preserved
loop-code-preserved g c = record {
  ready = c.in_ok-delete_watched.ensures.ready;
  down = down_then (g.L.Sink.taken c.args.log.now) (g.L.Sink.taken c.loop-code.log)
      (g.L.Sink.taken c.delete_watched.new.log) c.args.arena.now c.loop-code.arena c.delete_watched.new.arena
      c.args.reduction.first c.args.reduction.added c.loop-code.invariant.down c.in_ok-delete_watched.ensures.down;
  stays = c.in_ok-delete_watched.ensures.stays ∙ c.loop-code.invariant.stays;
}
