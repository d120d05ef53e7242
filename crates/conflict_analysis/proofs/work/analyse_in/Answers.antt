use Rattle.std.proofs.Common.{arith, length}
use Rattle.clause_arena.specs.Held.{lits_of}
use Rattle.conflict_analysis.specs.Lessons.{marked}
use Rattle.conflict_analysis.proofs.Earned.{contains_none, goes_back}
use Rattle.conflict_analysis.proofs.Fits.{trail_fits}
use Rattle.conflict_analysis.proofs.Followed.{unmarked, lesson_from}
use Rattle.conflict_analysis.proofs.Points.{pointed}
use Rattle.conflict_analysis.proofs.work.analyse_in.Goals as goal

pub follow_all-requires-clause-few : goal.follow_all-requires-clause-few
follow_all-requires-clause-few c =
    omega (
      arith,
      trail_fits (length c.args.marks.now) c.args.trail.now.lits.items c.requires.start.0.below
          c.requires.start.0.fresh,
      c.begin-top.auto.marks,
    )

pub returns-clause-ready : goal.returns-clause-ready
returns-clause-ready c =
    let a = c.args.arena.now in
    let ss = c.args.trail.now.lits.items in
    let w = c.follow_all.ensures.way c.begin-top.ensures.way in
    record {
      unmarked = unmarked a ss (marked c.follow_all.new.marks) c.follow_all.new.clause.items
          c.follow_all.new.chain.items w.followed;
      clause = omega (
        arith,
        c.requires.ready.clause,
        c.begin-top.ensures.clause_room,
        c.follow_all.ensures.clause_room,
        c.begin-top.auto.marks,
        c.follow_all.auto.marks,
      );
      chain = omega (
        arith,
        c.requires.ready.chain,
        c.begin-top.ensures.chain_room,
        c.follow_all.ensures.chain_room,
        c.begin-top.auto.marks,
        c.follow_all.auto.marks,
      );
    }

pub returns-clause-lesson : goal.returns-clause-lesson
returns-clause-lesson c =
    let w = c.follow_all.ensures.way c.begin-top.ensures.way in
    lesson_from c.args.arena.now c.args.trail.now.lits.items (marked c.follow_all.new.marks)
    c.follow_all.new.clause.items c.follow_all.new.chain.items w.followed

pub returns-clause-point : goal.returns-clause-point
returns-clause-point c =
    pointed c.args.arena.now c.args.trail.now.lits.items c.args.trail.now.levels.items c.begin-top.result
    c.requires.start.0.level_count c.requires.start.0.rising c.requires.start.0.fresh
    (lits_of c.args.arena.now c.args.conflict.0) (marked c.begin-top.new.marks) c.requires.start.1.1
    c.begin-top.ensures.begun.same c.begin-top.ensures.begun.highest (marked c.follow_all.new.marks)
    c.follow_all.new.clause.items c.follow_all.new.chain.items (c.follow_all.ensures.way c.begin-top.ensures.way)

pub returns-clause-earned : goal.returns-clause-earned
returns-clause-earned c = λ filled full.
    contains_none c.args.arena.now c.args.trail.now.lits.items c.args.trail.now.levels.items c.begin-top.result
    c.requires.start.0.level_count c.requires.start.0.rising c.requires.start.0.fresh (marked c.follow_all.new.marks)
    c.follow_all.new.clause.items c.follow_all.new.chain.items (c.follow_all.ensures.way c.begin-top.ensures.way)
    filled full

pub returns-clause-back : goal.returns-clause-back
returns-clause-back c =
    goes_back c.args.arena.now c.args.trail.now.lits.items c.args.trail.now.levels.items c.begin-top.result
    c.requires.start.0.level_count c.requires.start.0.rising c.requires.start.0.fresh (marked c.follow_all.new.marks)
    c.follow_all.new.clause.items c.follow_all.new.chain.items (c.follow_all.ensures.way c.begin-top.ensures.way)
    c.follow_all.result c.follow_all.ensures.second

pub returns-clause-order : goal.returns-clause-order
returns-clause-order c = (c.follow_all.ensures.way c.begin-top.ensures.way).order
