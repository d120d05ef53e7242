use Rattle.std.proofs.Common.{ℕ, List, sym, subst}
use Rattle.resolution_check.specs.declared.log.Lit.{Lit}
use Rattle.clause_arena.specs.Held.{lits_of}
use Rattle.conflict_analysis.specs.Levels.{AreFull}
use Rattle.conflict_analysis.specs.Lessons.{IsPointed}
use Rattle.watched_search.proofs.Settled.{all_filled}
use Rattle.watched_search.proofs.Starts.{ground_empty, ground_full}
use Rattle.watched_search.proofs.starting.refute.Goals as goal

pub returns-clause-earned : goal.returns-clause-earned
returns-clause-earned c =
    let a = c.args.arena.now in
    let s = c.args.assigned.now in
    c.analyse-back.ensures.earned
    (all_filled a c.words_are_sound.ensures c.requires.ground.filled)
    (subst (λ (ns : List ℕ). AreFull a c.trail.result.now.lits.items ns) (sym c.trail.ensures.levels)
    (subst (λ (ls : List Lit). AreFull a ls s.levels) (sym c.trail.ensures.lits)
    (ground_full s.levels c.requires.trail.rising c.requires.ground.low a s.lits)))

pub returns-clause-empty : goal.returns-clause-empty
returns-clause-empty c =
    let a = c.args.arena.now in
    let s = c.args.assigned.now in
    let f = lits_of c.args.arena.now c.args.conflict.0 in
    let w = c.analyse-back.new.work in
    ground_empty s.levels c.requires.trail.rising c.requires.ground.low a s.lits f w.lits w.chain
    c.requires.trail.level_count c.requires.conflict.1
    (subst (λ (ls : List Lit). IsPointed a ls s.levels f w.lits w.chain) c.trail.ensures.lits
    (subst (λ (ns : List ℕ). IsPointed a c.trail.result.now.lits.items ns f w.lits w.chain) c.trail.ensures.levels
    c.analyse-back.ensures.point))
