use Rattle.std.proofs.Common.{◌≡◌, ℕ, true, List, sym, subst}
use Rattle.mw_text.proofs.Lists.{item_there}
use Rattle.resolution_check.specs.declared.log.Lit.{Lit}
use Rattle.resolution_check.specs.Clauses.{is_below}
use Rattle.conflict_analysis.specs.Levels.{steps_to}
use Rattle.conflict_analysis.proofs.Below.{false_below}
use Rattle.watched_search.specs.Watches.{IsAsserting}
use Rattle.watched_search.proofs.Asserts.{goes_lower, asserting}
use Rattle.watched_search.proofs.learning.assert_clause.Goals as goal

pub back_to-from-requires-clause-some : goal.back_to-from-requires-clause-some
back_to-from-requires-clause-some c =
    let s = c.args.assigned.now in
    let t = c.requires.trail in
    let x = item_there c.args.work.now.lits 0 c.requires.some in
    goes_lower s.lits s.levels c.args.work.now.lits c.args.back x.0 t.level_count t.rising t.fresh x.1
    c.requires.lesson.false_all c.requires.back

pub hold-requires-clause-below : goal.hold-requires-clause-below
hold-requires-clause-below c =
    let s = c.args.assigned.now in
    subst (λ (ls : List Lit). is_below c.args.arena.now.vars ls ≡ true) (sym c.clause.ensures)
    (subst (λ (n : ℕ). is_below n c.args.work.now.lits ≡ true) c.requires.vars
    (false_below s.vars s.lits c.args.work.now.lits c.requires.trail.below c.requires.lesson.false_all))

pub hold-requires-clause-asserting : goal.hold-requires-clause-asserting
hold-requires-clause-asserting c =
    let s = c.args.assigned.now in
    let t = c.requires.trail in
    let x = item_there c.args.work.now.lits 0 c.requires.some in
    subst (λ (ls : List Lit). IsAsserting c.back_to-from.new.assigned.lits c.back_to-from.new.assigned.levels ls)
    (sym c.clause.ensures)
    (subst (λ (ls : List Lit). IsAsserting ls c.back_to-from.new.assigned.levels c.args.work.now.lits)
    (sym c.back_to-from.ensures.lits)
    (subst (λ (ns : List ℕ). IsAsserting (steps_to s.lits s.levels c.args.back) ns c.args.work.now.lits)
    (sym c.back_to-from.ensures.levels)
    (asserting s.lits s.levels c.args.work.now.lits c.args.back x.0 t.level_count t.rising t.fresh x.1
    c.requires.lesson.false_all c.requires.back)))
