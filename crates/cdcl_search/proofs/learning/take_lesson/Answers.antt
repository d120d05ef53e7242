use Rattle.std.proofs.Common.{◌≡◌, ◌<◌, ◌∙◌, length, [], ap, sym, arith}
use Rattle.mw_text.proofs.Results.{on_err}
use Rattle.mw_outside.specs.Taken.{part_of_all}
use Rattle.watched_search.proofs.Starts.{below_grown}
use Rattle.cdcl_search.proofs.Ready.{gives_grown, lesson_cuts, lesson_goes, lesson_refutes, lesson_text, no_items}
use Rattle.cdcl_search.proofs.Ready.{ready_more}
use Rattle.cdcl_search.proofs.learning.take_lesson.Goals as goal

pub log_lesson-requires : goal.log_lesson-requires
log_lesson-requires g c =
    let w = c.learn-back.new.work in
    lesson_text c.args.arena.now c.args.assigned.now c.args.addition.id 0 w.lits w.chain c.requires.ready c.requires.small
    c.learn-back.ensures.lesson c.learn-back.ensures.earned

pub returns-in_err-log_lesson-clause-cut : goal.returns-in_err-log_lesson-clause-cut
returns-in_err-log_lesson-clause-cut g c =
    let w = c.learn-back.new.work in
    on_err _ (lesson_cuts c.args.arena.now c.args.assigned.now c.args.addition.id 0 w.lits w.chain c.requires.ready
    c.requires.small c.learn-back.ensures.lesson c.learn-back.ensures.earned (g.L.Sink.taken c.args.log.now)
    (g.L.Sink.taken c.log_lesson.new.log) _ c.log_lesson.ensures.part)

pub returns-then-clause-eq0-clause-refuted : goal.returns-then-clause-eq0-clause-refuted
returns-then-clause-eq0-clause-refuted g c =
    let w = c.learn-back.new.work in
    let empty : w.lits ≡ [] = no_items w.lits (ap length (sym c.clause.ensures) ∙ c.if-clause-eq0.true) in
    λ done. lesson_refutes c.args.arena.now c.args.assigned.now c.args.addition.id 0 w.lits w.chain c.requires.ready
    c.requires.small c.learn-back.ensures.lesson c.learn-back.ensures.earned (g.L.Sink.taken c.args.log.now)
    (g.L.Sink.taken c.log_lesson.new.log) _ c.args.addition.turn _ c.in_ok-log_lesson.ensures.tells empty
    c.in_ok-log_lesson.ensures.takes

pub returns-in_err-from-clause-cut : goal.returns-in_err-from-clause-cut
returns-in_err-from-clause-cut g c =
    let w = c.learn-back.new.work in
    on_err _ (lesson_cuts c.args.arena.now c.args.assigned.now c.args.addition.id 0 w.lits w.chain c.requires.ready
    c.requires.small c.learn-back.ensures.lesson c.learn-back.ensures.earned (g.L.Sink.taken c.args.log.now)
    (g.L.Sink.taken c.log_lesson.new.log) _ (part_of_all _ _ _ c.in_ok-log_lesson.ensures.takes))

pub returns-clause-ready : goal.returns-clause-ready
returns-clause-ready g c =
    let w = c.learn-back.new.work in
    let t = c.in_ok-from.ensures in
    ready_more c.args.arena.now c.assert_clause.new.arena c.args.assigned.now c.assert_clause.new.assigned c.args.addition.id
    c.in_ok-from.from w.lits c.requires.ready t.clauses t.few t.vars t.arena_vars
    (below_grown c.args.arena.now c.assert_clause.new.arena c.args.addition.id w.lits t.clauses c.requires.ready.below)
    t.trail t.kept t.within

pub returns-clause-gives : goal.returns-clause-gives
returns-clause-gives g c =
    gives_grown c.args.arena.now c.assert_clause.new.arena c.args.addition.id c.learn-back.new.work.lits
    c.in_ok-from.ensures.clauses

pub returns-clause-going : goal.returns-clause-going
returns-clause-going g c =
    let w = c.learn-back.new.work in
    let e : length c.clause.result.now ≡ length c.learn-back.new.work.lits = ap length c.clause.ensures in
    let some : 0 < length c.learn-back.new.work.lits = omega (arith, c.if-clause-eq0.false) in
    lesson_goes c.args.arena.now c.args.assigned.now c.args.addition.id 0 w.lits w.chain c.requires.ready c.requires.small
    c.learn-back.ensures.lesson c.learn-back.ensures.earned (g.L.Sink.taken c.args.log.now)
    (g.L.Sink.taken c.log_lesson.new.log) _ c.args.addition.turn _ c.in_ok-log_lesson.ensures.tells c.assert_clause.new.arena
    c.in_ok-from.ensures.clauses some
    c.in_ok-log_lesson.ensures.takes
