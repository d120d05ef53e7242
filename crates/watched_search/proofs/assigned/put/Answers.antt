use Rattle.std.proofs.Common.{ℕ, ◌++◌, ◌∷◌, [], List, Option, length, set, sym, subst, arith}
use Rattle.resolution_check.specs.declared.log.Lit.{Lit}
use Rattle.clause_arena.specs.declared.names.ClauseRef.{ClauseRef}
use Rattle.watched_search.specs.Trails.{IsSound}
use Rattle.watched_search.proofs.Trails.{fits_more, sound_push}
use Rattle.watched_search.proofs.assigned.put.Goals as goal

pub push_reserved-requires : goal.push_reserved-requires
push_reserved-requires c =
    let s = c.requires.sound in
    omega (
      arith,
      fits_more (length c.args.values.now) c.args.trail.now.lits.items c.args.lit s.below s.fresh
          c.requires.below c.requires.free,
      c.requires.room.lits,
      c.args.trail.now.lits.ok.0,
    )

pub push_reserved-requires-2 : goal.push_reserved-requires-2
push_reserved-requires-2 c =
    let s = c.requires.sound in
    omega (
      arith,
      fits_more (length c.args.values.now) c.args.trail.now.lits.items c.args.lit s.below s.fresh
          c.requires.below c.requires.free,
      s.level_count,
      c.requires.room.levels,
      c.args.trail.now.levels.ok.0,
    )

pub push_reserved-requires-3 : goal.push_reserved-requires-3
push_reserved-requires-3 c =
    let s = c.requires.sound in
    omega (
      arith,
      fits_more (length c.args.values.now) c.args.trail.now.lits.items c.args.lit s.below s.fresh
          c.requires.below c.requires.free,
      s.reason_count,
      c.requires.room.reasons,
      c.args.trail.now.reasons.ok.0,
    )

pub returns-clause-sound : goal.returns-clause-sound
returns-clause-sound c =
    let vs = set c.args.values.now c.args.lit.var c.value_where_true.result in
    let ls = c.args.trail.now.lits.items in
    let levels = c.args.trail.now.levels.items in
    let reasons = c.args.trail.now.reasons.items in
    subst (λ (xs : List Lit). IsSound xs c.push_reserved-2.new.self.items c.push_reserved-3.new.self.items vs)
    (sym c.push_reserved.ensures.items)
    (subst (λ (xs : List ℕ). IsSound (ls ++ c.args.lit ∷ []) xs c.push_reserved-3.new.self.items vs)
    (sym c.push_reserved-2.ensures.items)
    (subst (λ (xs : List (Option ClauseRef)). IsSound (ls ++ c.args.lit ∷ []) (levels ++ c.args.level ∷ []) xs vs)
    (sym c.push_reserved-3.ensures.items)
    (sound_push ls levels reasons c.args.values.now c.args.lit c.args.level c.args.reason c.value_where_true.result
    c.value_where_true.ensures c.requires.below c.requires.free c.requires.sound)))
