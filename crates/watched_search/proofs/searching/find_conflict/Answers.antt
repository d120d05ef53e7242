use Rattle.std.proofs.Common.{◌≤◌, ◌∷◌, [], length, sym, subst, ◌∙◌, arith}
use Rattle.watched_search.specs.Watches.{IsKept}
use Rattle.watched_search.proofs.Moved.{view_then}
use Rattle.watched_search.proofs.Walks.{extends_then, extends_within}
use Rattle.watched_search.proofs.searching.find_conflict.Goals as goal

pub loop-preserved : goal.loop-preserved
loop-preserved g c =
    let i = c.loop.invariant in
    let p = c.propagate-found in
    let d = c.decide in
    let middle = c.propagate-found.new.assigned.lits in
    record {
      vars = d.ensures.vars ∙ p.ensures.vars ∙ i.vars ∙ sym p.ensures.view.vars;
      view = view_then c.args.arena.now c.loop.arena c.propagate-found.new.arena i.view p.ensures.view;
      trail = d.ensures.trail;
      kept = subst (IsKept c.propagate-found.new.arena c.decide.new.assigned.lits c.decide.new.assigned.levels)
          (sym c.len-next.ensures.len) d.ensures.kept;
      extends = extends_then c.args.assigned.now.lits middle c.decide.new.assigned.lits
          (extends_then c.args.assigned.now.lits c.loop.assigned.lits middle i.extends p.ensures.extends)
          (record { more = c.in-Some.lit ∷ []; is = d.ensures.lits });
      within = omega (arith, c.len-next.ensures.len, d.ensures.longer);
      long =
          (let more : c.loop.counter ≤ length c.propagate-found.new.assigned.lits =
          extends_within c.loop.assigned.lits middle c.loop.counter p.ensures.extends i.long in
          omega (arith, d.ensures.longer));
      told = c.choose.ensures.told ∙ i.told;
    }
