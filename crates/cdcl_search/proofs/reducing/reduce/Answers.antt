use Rattle.std.proofs.Common.{◌+◌, refl}
use Rattle.mw_text.proofs.Results.{on_err}
use Rattle.cdcl_search.proofs.Downs.{cuts_reduced, goes_reduced}
use Rattle.cdcl_search.proofs.Reduced.{goes_compacted, keeps_compacted, ready_compacted}
use Rattle.cdcl_search.proofs.reducing.reduce.Goals as goal

pub returns-in_err-delete_all-clause-cut : goal.returns-in_err-delete_all-clause-cut
returns-in_err-delete_all-clause-cut g c =
    on_err _
    (cuts_reduced (g.L.Sink.taken c.args.log.now) c.args.arena.now c.args.first c.args.added c.args.runs
    (c.if-not-is_due.ensures.due refl).0 (g.L.Sink.taken c.delete_all.new.log)
    c.in_err-delete_all.ensures.cut)

pub returns-clause-ready : goal.returns-clause-ready
returns-clause-ready g c =
    let e = c.compact.ensures in
    ready_compacted c.delete_all.new.arena c.compact.new.arena c.args.assigned.now c.compact.new.assigned
    (c.args.first + c.args.added) c.args.from c.in_ok-delete_all.ensures.ready e.vars e.arena_vars e.lits e.clauses
    e.trail (e.kept c.args.from c.in_ok-delete_all.ensures.ready.kept) e.below

pub returns-clause-keeps : goal.returns-clause-keeps
returns-clause-keeps g c =
    keeps_compacted c.args.arena.now c.delete_all.new.arena c.compact.new.arena c.args.first c.compact.ensures.clauses
    c.in_ok-delete_all.ensures.down.inputs

pub returns-clause-goes : goal.returns-clause-goes
returns-clause-goes g c =
    goes_compacted (g.L.Sink.taken c.args.log.now) (g.L.Sink.taken c.delete_all.new.log) c.args.arena.now
    c.delete_all.new.arena c.compact.new.arena c.args.first c.args.added c.args.runs (c.args.runs + 1)
    c.compact.ensures.clauses
    (goes_reduced (g.L.Sink.taken c.args.log.now) c.args.arena.now c.args.first c.args.added c.args.runs
    (c.if-not-is_due.ensures.due refl).0 (g.L.Sink.taken c.delete_all.new.log)
    c.delete_all.new.arena c.in_ok-delete_all.ensures.down)
