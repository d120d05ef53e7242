use Rattle.std.proofs.Common.{false, sym, ap}
use Rattle.std.proofs.Common.{◌∙◌, arith}
use Rattle.std.proofs.lemmas.Option.{get_or_from_slice_get}
use Rattle.mw_text.proofs.Lists.{item_there}
use Rattle.resolution_check.specs.Trails.{holds}
use Rattle.watched_search.proofs.Learnt.{trail_added, held_new, new_lits, new_literal}
use Rattle.watched_search.proofs.Starts.{below_added, filled_added, ones_added, one_alone}
use Rattle.watched_search.proofs.Walks.{extends_same}
use Rattle.watched_search.proofs.starting.hold_input.Goals as goal

pub returns-then-clause-gt1-clause-above : goal.returns-then-clause-gt1-clause-above
returns-then-clause-gt1-clause-above c =
    below_added c.args.arena.now c.add.new.self c.in_ok-reference.reference.0 c.args.id _ c.in_ok-reference.ensures.ok
    c.requires.above

pub returns-then-clause-gt1-clause-trail : goal.returns-then-clause-gt1-clause-trail
returns-then-clause-gt1-clause-trail c =
    let s = c.args.assigned.now in
    trail_added c.args.arena.now c.add.new.self c.in_ok-reference.reference.0 c.args.id c.args.clause.now
    c.words_are_sound.ensures c.words_are_sound-2.ensures c.in_ok-reference.ensures.ok c.in_ok-reference.ensures.clauses
    s.vars s.lits s.levels s.reasons c.requires.trail

pub returns-then-clause-gt1-clause-ground : goal.returns-then-clause-gt1-clause-ground
returns-then-clause-gt1-clause-ground c = record {
  low = c.requires.ground.low;
  filled = filled_added c.args.arena.now c.add.new.self c.in_ok-reference.reference.0 c.args.id c.args.clause.now
      c.words_are_sound.ensures c.words_are_sound-2.ensures c.in_ok-reference.ensures.ok
      c.in_ok-reference.ensures.clauses c.requires.some c.requires.ground.filled;
}

pub returns-then-clause-gt1-clause-ones : goal.returns-then-clause-gt1-clause-ones
returns-then-clause-gt1-clause-ones c = λ none.
    ones_added c.args.arena.now c.add.new.self c.in_ok-reference.reference.0 c.args.id c.args.clause.now
    c.words_are_sound.ensures c.words_are_sound-2.ensures c.in_ok-reference.ensures.ok c.in_ok-reference.ensures.clauses
    c.args.assigned.now.lits c.args.assigned.now.lits (extends_same c.args.assigned.now.lits) c.requires.ones
    (λ one. absurd (omega (arith, one)))

pub make_true-found-requires-clause-trail : goal.make_true-found-requires-clause-trail
make_true-found-requires-clause-trail c =
    let s = c.args.assigned.now in
    trail_added c.args.arena.now c.add.new.self c.in_ok-reference.reference.0 c.args.id c.args.clause.now
    c.words_are_sound.ensures c.words_are_sound-2.ensures c.in_ok-reference.ensures.ok c.in_ok-reference.ensures.clauses
    s.vars s.lits s.levels s.reasons c.requires.trail

pub make_true-found-requires-clause-held : goal.make_true-found-requires-clause-held
make_true-found-requires-clause-held c =
    held_new c.args.arena.now c.add.new.self c.in_ok-reference.reference.0 c.args.id c.args.clause.now
    c.words_are_sound.ensures c.words_are_sound-2.ensures c.in_ok-reference.ensures.ok c.in_ok-reference.ensures.clauses

pub make_true-found-requires-clause-only : goal.make_true-found-requires-clause-only
make_true-found-requires-clause-only c =
    new_lits c.args.arena.now c.add.new.self c.in_ok-reference.reference.0 c.args.id c.args.clause.now
    c.words_are_sound.ensures c.words_are_sound-2.ensures c.in_ok-reference.ensures.ok c.in_ok-reference.ensures.clauses
    ∙ one_alone c.args.clause.now (omega arith)

pub returns-clause-above : goal.returns-clause-above
returns-clause-above c =
    below_added c.args.arena.now c.add.new.self c.in_ok-reference.reference.0 c.args.id _ c.in_ok-reference.ensures.ok
    c.requires.above

pub returns-clause-ground : goal.returns-clause-ground
returns-clause-ground c = record {
  low = c.make_true-found.ensures.level ∙ c.requires.ground.low;
  filled = filled_added c.args.arena.now c.add.new.self c.in_ok-reference.reference.0 c.args.id c.args.clause.now
      c.words_are_sound.ensures c.words_are_sound-2.ensures c.in_ok-reference.ensures.ok
      c.in_ok-reference.ensures.clauses c.requires.some c.requires.ground.filled;
}

pub returns-clause-ones : goal.returns-clause-ones
returns-clause-ones c = λ none.
    let x = item_there c.args.clause.now 0 c.requires.some in
    let first = get_or_from_slice_get c.args.clause.now 0 x.0 (record { var = 0; negated = false }) x.1 in
    ones_added c.args.arena.now c.add.new.self c.in_ok-reference.reference.0 c.args.id c.args.clause.now
    c.words_are_sound.ensures c.words_are_sound-2.ensures c.in_ok-reference.ensures.ok c.in_ok-reference.ensures.clauses
    c.args.assigned.now.lits c.make_true-found.new.assigned.lits c.make_true-found.ensures.extends c.requires.ones
    (λ one. ap (holds c.make_true-found.new.assigned.lits)
    (new_literal c.args.arena.now c.add.new.self c.in_ok-reference.reference.0 c.args.id c.args.clause.now
    c.words_are_sound.ensures c.words_are_sound-2.ensures c.in_ok-reference.ensures.ok c.in_ok-reference.ensures.clauses
    0 x.0 x.1 ∙ sym first) ∙ c.make_true-found.ensures.holds none)
