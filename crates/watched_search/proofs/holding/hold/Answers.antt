use Rattle.std.proofs.Common.{ℕ, ◌++◌, ◌∷◌, [], List, false, length, inr, refl, sym, ap, subst, ◌∙◌, arith}
use Rattle.std.proofs.lemmas.Option.{get_or_from_slice_get}
use Rattle.resolution_check.specs.declared.log.Lit.{Lit}
use Rattle.conflict_analysis.specs.Steps.{IsForcedBy}
use Rattle.watched_search.specs.Watches.{IsKept}
use Rattle.watched_search.proofs.Counts.{few_held}
use Rattle.watched_search.proofs.Learnt.{trail_added, forced_first, kept_learnt}
use Rattle.watched_search.proofs.holding.hold.Goals as goal

pub assign-requires-clause-trail : goal.assign-requires-clause-trail
assign-requires-clause-trail c =
    let s = c.args.assigned.now in
    trail_added c.args.arena.now c.add.new.self c.in_ok-reference.reference.0 c.args.id c.args.clause.now
    c.words_are_sound.ensures c.words_are_sound-2.ensures c.in_ok-reference.ensures.ok c.in_ok-reference.ensures.clauses
    s.vars s.lits s.levels s.reasons c.requires.trail

pub assign-requires-clause-may : goal.assign-requires-clause-may
assign-requires-clause-may c =
    let s = c.args.assigned.now in
    let asserts = c.requires.asserting in
    inr (record {
      clause = c.in_ok-reference.reference;
      is = refl;
      forced = subst (λ (l : Lit). IsForcedBy c.add.new.self s.lits l c.in_ok-reference.reference)
          (sym (get_or_from_slice_get c.args.clause.now 0 asserts.first (record { var = 0; negated = false })
          asserts.there))
          (forced_first c.args.arena.now c.add.new.self c.in_ok-reference.reference.0 c.args.id c.args.clause.now
          c.words_are_sound.ensures c.words_are_sound-2.ensures c.in_ok-reference.ensures.ok
          c.in_ok-reference.ensures.clauses s.vars s.lits s.levels s.reasons c.requires.trail c.requires.kept asserts
          c.in_ok-reference.reference refl);
      same_level = c.level-level.ensures;
    })

pub returns-clause-kept : goal.returns-clause-kept
returns-clause-kept c =
    let s = c.args.assigned.now in
    let asserts = c.requires.asserting in
    let b = c.add.new.self in
    let first = get_or_from_slice_get c.args.clause.now 0 asserts.first (record { var = 0; negated = false })
    asserts.there in
    subst (λ (xs : List Lit). IsKept b xs c.assign.new.assigned.levels (length c.args.assigned.now.lits))
    (sym (c.assign.ensures.lits ∙ ap (λ (l : Lit). c.args.assigned.now.lits ++ l ∷ []) first))
    (subst (λ (xs : List ℕ). IsKept b (s.lits ++ asserts.first ∷ []) xs (length c.args.assigned.now.lits))
    (sym (c.assign.ensures.levels ∙ ap (λ (n : ℕ). c.args.assigned.now.levels ++ n ∷ []) c.level-level.ensures))
    (kept_learnt c.args.arena.now b c.in_ok-reference.reference.0 c.args.id c.args.clause.now c.words_are_sound.ensures
    c.words_are_sound-2.ensures c.in_ok-reference.ensures.ok c.in_ok-reference.ensures.clauses s.vars s.lits s.levels
    s.reasons c.requires.trail c.requires.kept asserts))

pub returns-clause-few : goal.returns-clause-few
returns-clause-few c =
    few_held c.args.arena.now c.add.new.self c.in_ok-reference.reference.0 c.args.id _ c.words_are_sound-2.ensures
    c.in_ok-reference.ensures.ok (omega arith)
