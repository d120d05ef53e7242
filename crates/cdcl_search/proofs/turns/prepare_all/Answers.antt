use Rattle.std.proofs.Common.{◌≡◌, ◌<◌, ◌∙◌, length, map, slice_get, Some, ap, sym, arith}
use Rattle.std.proofs.lemmas.List.{length-map, length-set, map-set}
use Rattle.std.proofs.lemmas.Option.{slice_get_within}
use Rattle.cdcl_search.proofs.Bumps.{untold_next}
use Rattle.cdcl_search.proofs.turns.prepare_all.Goals as goal

pub loop-at-preserved : goal.loop-at-preserved
loop-at-preserved g c = record {
  count = length-set c.loop-at.deciders.items c.loop-at.at c.prepare.new.decider ∙ c.loop-at.invariant.count;
  untold = λ own bumps low there.
      untold_next (map (λ b. (goal.Decider-dyn g (b.vtable, b.value)).told b.value) c.loop-at.deciders.items)
      c.loop-at.at ((goal.Decider-dyn g (c.prepare.new.decider.vtable, c.prepare.new.decider.value)).told
      c.prepare.new.decider.value) c.loop-at.invariant.untold c.prepare.ensures own bumps low
      (sym (ap (λ xs. slice_get xs own) (map-set
      (λ b. (goal.Decider-dyn g (b.vtable, b.value)).told b.value) c.loop-at.deciders.items c.loop-at.at
      c.prepare.new.decider)) ∙ there);
}

pub returns-clause-untold : goal.returns-clause-untold
returns-clause-untold g c = λ own bumps there.
    let low : own < length (map (λ b. (goal.Decider-dyn g (b.vtable, b.value)).told b.value) c.loop-at.deciders.items) =
    slice_get_within _ own (Some bumps) there in
    let long : length (map (λ b. (goal.Decider-dyn g (b.vtable, b.value)).told b.value) c.loop-at.deciders.items)
    ≡ length c.loop-at.deciders.items =
    length-map c.loop-at.deciders.items (λ b. (goal.Decider-dyn g (b.vtable, b.value)).told b.value) in
    c.loop-at.invariant.untold own bumps
    (omega (
      arith,
      low,
      long,
      c.loop-at.invariant.count,
      c.loop-at-test.false,
      c.loop-at.auto,
      c.len-at-end.ensures,
      c.args.deciders.now.ok.0,
    )) there
