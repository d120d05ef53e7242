use Rattle.std.proofs.Common.{ℕ, ◌++◌, ◌∷◌, [], List, Option, sym, subst}
use Rattle.resolution_check.specs.declared.log.Lit.{Lit}
use Rattle.clause_arena.specs.declared.names.ClauseRef.{ClauseRef}
use Rattle.conflict_analysis.specs.Steps.{IsTrail}
use Rattle.watched_search.proofs.Steps.{trail_push}
use Rattle.watched_search.proofs.stepping.assign.Goals as goal

pub returns-clause-trail : goal.returns-clause-trail
returns-clause-trail c =
    let a = c.args.arena.now in
    let old = c.args.assigned.now in
    subst (λ (n : ℕ). IsTrail a n c.push.new.self.lits c.push.new.self.levels c.push.new.self.reasons)
    (sym c.push.ensures.vars)
    (subst (λ (xs : List Lit). IsTrail a old.vars xs c.push.new.self.levels c.push.new.self.reasons)
    (sym c.push.ensures.lits)
    (subst (λ (xs : List ℕ). IsTrail a old.vars (old.lits ++ c.args.lit ∷ []) xs c.push.new.self.reasons)
    (sym c.push.ensures.levels)
    (subst (λ (xs : List (Option ClauseRef)). IsTrail a old.vars (old.lits ++ c.args.lit ∷ [])
    (old.levels ++ c.args.level ∷ []) xs) (sym c.push.ensures.reasons)
    (trail_push a old.vars old.lits old.levels old.reasons c.requires.trail c.args.lit c.args.level c.args.reason
    c.requires.below c.requires.free c.requires.may))))
