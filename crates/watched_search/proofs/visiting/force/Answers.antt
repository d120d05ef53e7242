use Rattle.std.proofs.Common.{◌≡◌, ℕ, true, List, ◌∷◌, [], ◌++◌, ap, sym, subst, ◌∙◌}
use Rattle.resolution_check.specs.declared.log.Lit.{Lit}
use Rattle.resolution_check.specs.Trails.{holds}
use Rattle.watched_search.specs.Trails.{last_level}
use Rattle.watched_search.specs.Watches.{IsKept}
use Rattle.watched_search.proofs.Starts.{last_push}
use Rattle.watched_search.proofs.Visits.{holds_last, kept_push}
use Rattle.watched_search.proofs.visiting.force.Goals as goal

pub returns-clause-kept : goal.returns-clause-kept
returns-clause-kept c =
    let a = c.args.arena.now in
    let old = c.args.assigned.now in
    subst (λ (xs : List Lit). IsKept a xs c.assign.new.assigned.levels c.args.looked_at) (sym c.assign.ensures.lits)
    (subst (λ (xs : List ℕ). IsKept a (old.lits ++ c.args.lit ∷ []) xs c.args.looked_at) (sym c.assign.ensures.levels)
    (kept_push a old.lits old.levels c.args.looked_at c.args.lit c.level-level.result c.requires.trail.level_count
    c.requires.within c.level-level.ensures c.requires.kept))

pub returns-clause-level : goal.returns-clause-level
returns-clause-level c =
    ap last_level c.assign.ensures.levels
    ∙ last_push c.args.assigned.now.levels c.level-level.result ∙ c.level-level.ensures

pub returns-clause-holds : goal.returns-clause-holds
returns-clause-holds c =
    subst (λ (xs : List Lit). holds xs c.args.lit ≡ true) (sym c.assign.ensures.lits)
    (holds_last c.args.assigned.now.lits c.args.lit c.requires.unit.free)
