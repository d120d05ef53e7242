use Rattle.std.proofs.Common.{ℕ, List, Option, sym, subst}
use Rattle.resolution_check.specs.declared.log.Lit.{Lit}
use Rattle.clause_arena.specs.declared.names.ClauseRef.{ClauseRef}
use Rattle.conflict_analysis.specs.Steps.{IsTrail}
use Rattle.watched_search.specs.Watches.{IsKept}
use Rattle.watched_search.proofs.Compacted.{below_compacted, kept_compacted, reasons_held, trail_compacted}
use Rattle.watched_search.proofs.compacting.compact.Goals as goal

pub compact-requires : goal.compact-requires
compact-requires c =
    let s = c.args.assigned.now in
    reasons_held c.args.arena.now s.vars s.lits s.levels s.reasons c.requires.trail

pub returns-clause-trail : goal.returns-clause-trail
returns-clause-trail c =
    let s = c.args.assigned.now in
    let n = c.compact.new.self in
    let a = c.compact.new.arena in
    subst (λ (v : ℕ). IsTrail a v n.lits n.levels n.reasons) (sym c.compact.ensures.vars)
    (subst (λ (xs : List Lit). IsTrail a s.vars xs n.levels n.reasons) (sym c.compact.ensures.lits)
    (subst (λ (xs : List ℕ). IsTrail a s.vars s.lits xs n.reasons) (sym c.compact.ensures.levels)
    (subst (λ (rs : List (Option ClauseRef)). IsTrail a s.vars s.lits s.levels rs) (sym c.compact.ensures.reasons)
    (trail_compacted c.args.arena.now a c.compact.ensures.compacts c.words_are_sound.ensures
    c.words_are_sound-2.ensures s.vars s.lits s.levels s.reasons c.requires.trail))))

pub returns-clause-kept : goal.returns-clause-kept
returns-clause-kept c = λ at kept.
    let s = c.args.assigned.now in
    let n = c.compact.new.self in
    let a = c.compact.new.arena in
    subst (λ (xs : List Lit). IsKept a xs n.levels at) (sym c.compact.ensures.lits)
    (subst (λ (xs : List ℕ). IsKept a s.lits xs at) (sym c.compact.ensures.levels)
    (kept_compacted c.args.arena.now a c.compact.ensures.compacts c.words_are_sound.ensures
    c.words_are_sound-2.ensures s.lits s.levels at kept))

pub returns-clause-below : goal.returns-clause-below
returns-clause-below c =
    below_compacted c.args.arena.now c.compact.new.arena c.compact.ensures.compacts c.words_are_sound.ensures
    c.words_are_sound-2.ensures
