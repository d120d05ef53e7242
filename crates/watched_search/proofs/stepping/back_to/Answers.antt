use Rattle.std.proofs.Common.{◌≡◌, ◌≤◌, ℕ, List, Option, length, length-take, min, take, sym, subst, ap, ◌∙◌, arith}
use Rattle.resolution_check.specs.declared.log.Lit.{Lit}
use Rattle.clause_arena.specs.declared.names.ClauseRef.{ClauseRef}
use Rattle.conflict_analysis.specs.Steps.{IsTrail}
use Rattle.conflict_analysis.specs.Levels.{count_to}
use Rattle.watched_search.specs.Watches.{IsKept}
use Rattle.watched_search.proofs.Back.{count_within, trail_cut, kept_back, some_behind}
use Rattle.watched_search.proofs.stepping.back_to.Goals as goal

pub returns-clause-trail : goal.returns-clause-trail
returns-clause-trail c =
    let a = c.args.arena.now in
    let old = c.args.assigned.now in
    let n = c.count_up_to-left.result in
    subst (λ (v : ℕ). IsTrail a v c.cut.new.self.lits c.cut.new.self.levels c.cut.new.self.reasons)
    (sym c.cut.ensures.vars)
    (subst (λ (xs : List Lit). IsTrail a old.vars xs c.cut.new.self.levels c.cut.new.self.reasons)
    (sym c.cut.ensures.lits)
    (subst (λ (xs : List ℕ). IsTrail a old.vars (take n old.lits) xs c.cut.new.self.reasons)
    (sym c.cut.ensures.levels)
    (subst (λ (xs : List (Option ClauseRef)). IsTrail a old.vars (take n old.lits) (take n old.levels) xs)
    (sym c.cut.ensures.reasons)
    (trail_cut a old.vars old.lits old.levels old.reasons n c.requires.trail))))

pub returns-clause-kept : goal.returns-clause-kept
returns-clause-kept c =
    let a = c.args.arena.now in
    let old = c.args.assigned.now in
    let e : c.count_up_to-left.result ≡ count_to c.args.assigned.now.levels c.args.level =
    c.count_up_to-left.ensures
    ∙ ap (λ (ns : List ℕ). count_to ns c.args.level) (c.deref.ensures.value ∙ c.trail.ensures.levels) in
    subst (λ (xs : List Lit). IsKept a xs c.cut.new.self.levels c.count_up_to-left.result)
    (sym (c.cut.ensures.lits ∙ ap (λ (k : ℕ). take k c.args.assigned.now.lits) e))
    (subst (λ (xs : List ℕ). IsKept a (take (count_to old.levels c.args.level) old.lits) xs c.count_up_to-left.result)
    (sym (c.cut.ensures.levels ∙ ap (λ (k : ℕ). take k c.args.assigned.now.levels) e))
    (subst (λ (k : ℕ). IsKept a (take (count_to old.levels c.args.level) old.lits)
    (take (count_to old.levels c.args.level) old.levels) k) (sym e)
    (kept_back a old.lits old.levels c.args.level 0 c.requires.trail.level_count c.requires.trail.rising
    c.requires.kept (some_behind old.levels c.args.level c.requires.some))))

pub returns-clause-all : goal.returns-clause-all
returns-clause-all c =
    let e : c.count_up_to-left.result ≡ count_to c.args.assigned.now.levels c.args.level =
    c.count_up_to-left.ensures
    ∙ ap (λ (ns : List ℕ). count_to ns c.args.level) (c.deref.ensures.value ∙ c.trail.ensures.levels) in
    let within : count_to c.args.assigned.now.levels c.args.level ≤ length c.args.assigned.now.levels =
    count_within c.args.assigned.now.levels c.args.level in
    let short : length c.cut.new.self.lits ≡ min c.count_up_to-left.result (length c.args.assigned.now.lits) =
    ap length c.cut.ensures.lits ∙ length-take c.count_up_to-left.result c.args.assigned.now.lits in
    omega (arith, c.requires.trail.level_count)
