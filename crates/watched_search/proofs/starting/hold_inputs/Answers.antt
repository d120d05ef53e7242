use Rattle.std.proofs.Common.{rules, ◌≡◌, ℕ, List, ◌+◌, ◌++◌, ◌∷◌, [], Some, slice_get, refl, sym, ap, ◌∙◌}
use Rattle.std.proofs.lemmas.Option.{get_or_from_slice_get, slice_get_read}
use Rattle.resolution_check.specs.declared.log.Clause.{Clause}
use Rattle.resolution_check.specs.declared.log.Lit.{Lit}
use Rattle.clause_arena.specs.Held.{clauses}
use Rattle.watched_search.specs.Trails.{last_level}
use Rattle.watched_search.proofs.Starts.{ground_kept, none_found, none_held, numbered_next, trail_empty}
use Rattle.watched_search.proofs.starting.hold_inputs.Goals as goal

pub loop-at-init : goal.loop-at-init
loop-at-init c =
    let a = c.args.arena.now in
    let s = c.args.assigned.now in
    record {
      vars = c.requires.vars;
      arena_vars = refl;
      trail = trail_empty a s.vars s.lits s.levels s.reasons c.requires.no_lits c.requires.no_levels
          c.requires.no_reasons;
      ground = record {
        low = ap (λ (ns : List ℕ). last_level ns) c.requires.no_levels;
        filled = λ r i. absurd (none_held a c.requires.no_clauses r i);
      };
      ones = λ r i one. absurd (none_held a c.requires.no_clauses r i);
      clauses = c.requires.no_clauses;
      above = λ k i. absurd (none_held a c.requires.no_clauses k.0 i);
    }

pub returns-then-is_some-clause-front : goal.returns-then-is_some-clause-front
returns-then-is_some-clause-front c =
    let at = c.loop-at.at in
    let x = c.index-inputs-at.result in
    let there : slice_get c.args.inputs.now c.loop-at.at ≡ Some c.index-inputs-at.result =
    slice_get_read c.args.inputs.now _ c.loop-at.at c.index-inputs-at.result (search rules) c.loop-at-test.true
    c.index-inputs-at.is in (
      at + 1,
      c.in_ok-found.ensures.clauses
          ∙ ap (λ (ls : List Lit). clauses c.loop-at.arena ++ (c.loop-at.at + 1, ls) ∷ []) c.as_slice.ensures
          ∙ ap (λ (k : Clause). clauses c.loop-at.arena ++ (c.loop-at.at + 1, k.lits) ∷ [])
          (get_or_from_slice_get c.args.inputs.now at x x there)
          ∙ ap (λ (xs : List (ℕ × List Lit)). xs ++ (at + 1, x.lits) ∷ []) c.loop-at.invariant.clauses
          ∙ sym (numbered_next c.args.inputs.now at x there),
    )

pub loop-at-preserved : goal.loop-at-preserved
loop-at-preserved c =
    let at = c.loop-at.at in
    let x = c.index-inputs-at.result in
    let i = c.loop-at.invariant in
    let e = c.in_ok-found.ensures in
    let there : slice_get c.args.inputs.now c.loop-at.at ≡ Some c.index-inputs-at.result =
    slice_get_read c.args.inputs.now _ c.loop-at.at c.index-inputs-at.result (search rules) c.loop-at-test.true
    c.index-inputs-at.is in
    record {
      vars = e.vars;
      arena_vars = e.arena_vars ∙ i.arena_vars;
      trail = e.trail;
      ground = e.ground;
      ones = e.ones (none_found c.in_ok-found.found (sym c.is_some.ensures ∙ c.if-is_some.false));
      clauses = e.clauses
          ∙ ap (λ (ls : List Lit). clauses c.loop-at.arena ++ (c.loop-at.at + 1, ls) ∷ []) c.as_slice.ensures
          ∙ ap (λ (k : Clause). clauses c.loop-at.arena ++ (c.loop-at.at + 1, k.lits) ∷ [])
          (get_or_from_slice_get c.args.inputs.now at x x there)
          ∙ ap (λ (xs : List (ℕ × List Lit)). xs ++ (at + 1, x.lits) ∷ []) i.clauses
          ∙ sym (numbered_next c.args.inputs.now at x there);
      above = e.above;
    }

pub returns-clause-kept : goal.returns-clause-kept
returns-clause-kept c = λ none.
    let s = c.loop-at.assigned in
    let i = c.loop-at.invariant in
    ground_kept s.levels i.trail.rising i.ground.low c.loop-at.arena s.lits i.trail.level_count i.ground.filled i.ones
