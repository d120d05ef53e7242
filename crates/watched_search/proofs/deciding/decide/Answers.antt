use Rattle.std.proofs.Common.{ℕ, ◌+◌, ap, ◌++◌, ◌∷◌, [], List, length, sym, subst}
use Rattle.resolution_check.specs.declared.log.Lit.{Lit}
use Rattle.watched_search.specs.Watches.{IsKept}
use Rattle.watched_search.proofs.Decided.{kept_decided}
use Rattle.watched_search.proofs.deciding.decide.Goals as goal

pub returns-clause-kept : goal.returns-clause-kept
returns-clause-kept c =
    let a = c.args.arena.now in
    let s = c.args.assigned.now in
    subst (λ (ls : List Lit). IsKept a ls c.assign.new.assigned.levels (length c.args.assigned.now.lits))
    (sym c.assign.ensures.lits)
    (subst (λ (ns : List ℕ). IsKept a (s.lits ++ c.args.lit ∷ []) ns (length c.args.assigned.now.lits))
    (sym c.assign.ensures.levels)
    (kept_decided a s.lits s.levels c.args.lit _ c.requires.trail.level_count
    (ap (λ (n : ℕ). n + 1) c.level-level.ensures) c.requires.kept))
