use Rattle.std.proofs.Common.{◌≡◌, ◌⊎◌, ℕ, ◌+◌, ◌-◌, ◌++◌, ◌∷◌, [], List, inl, inr, sym, ◌∙◌, subst, arith}
use Rattle.std.proofs.lemmas.Option.{slice_get_cases}
use Rattle.resolution_check.specs.declared.log.Lit.{Lit}
use Rattle.resolution_check.specs.Clauses.{opposite}
use Rattle.conflict_analysis.specs.Lessons.{marked, IsOnWay, IsSecond}
use Rattle.conflict_analysis.proofs.Points.{way_past}
use Rattle.conflict_analysis.proofs.following.follow_all.Goals as goal

-- a step that is not marked is passed
pub loop-at-preserved-then-not-is_marked : goal.loop-at-preserved-then-not-is_marked
loop-at-preserved-then-not-is_marked c =
    let a = c.args.arena.now in
    let ss = c.args.trail.now.lits.items in
    let levels = c.args.trail.now.levels.items in
    let old = c.loop-at in
    let trail = c.requires.trail in
    let up : c.loop-at.at ≡ c.loop-at.at - 1 + 1 = omega (arith, c.loop-at-test.true) in
    record {
      way = λ s. elim (slice_get_cases ss (c.loop-at.at - 1)).1 [
        | inl x ↦ way_past a ss levels c.args.top trail.level_count trail.rising trail.fresh (c.loop-at.at - 1) x.0 x.2
            (marked old.marks) (marked old.marks) old.clause.items old.chain.items
            (subst (λ (k : ℕ). IsOnWay a ss levels c.args.top k (marked old.marks) old.clause.items old.chain.items) up
            (old.invariant.way s)) (c.is_marked.ensures x.0 x.2 ∙ c.if-not-is_marked.true)
        | inr y ↦ absurd (omega (arith, y.0, c.loop-at-test.true, c.loop-at.auto.at, c.len-at.ensures))
      ];
      second = old.invariant.second;
      count = omega (arith, old.invariant.count, c.loop-at-test.true);
      named = old.invariant.named;
      clause_room = old.invariant.clause_room;
      chain_room = old.invariant.chain_room;
    }

pub loop-at-preserved : goal.loop-at-preserved
loop-at-preserved c =
    let a = c.args.arena.now in
    let ss = c.args.trail.now.lits.items in
    let levels = c.args.trail.now.levels.items in
    let old = c.loop-at in
    let new = c.follow_step.new.clause.items in
    let at : ℕ = c.loop-at.at - 1 in
    let up : c.loop-at.at ≡ c.loop-at.at - 1 + 1 = omega (arith, c.loop-at-test.true) in
    record {
      way = λ s. c.follow_step.ensures.way
          (subst (λ (k : ℕ). IsOnWay a ss levels c.args.top k (marked old.marks) old.clause.items old.chain.items) up
          (old.invariant.way s));
      second = elim (slice_get_cases ss (c.loop-at.at - 1)).1 [
        | inl x ↦ subst (λ (ls : List Lit). IsSecond ss levels ls c.level_back-back.result) c.deref.ensures.value
            (c.level_back-back.ensures old.clause.items x.0 old.invariant.second
            (sym (c.len-before.ensures ∙ old.clause.ok.0)) x.2
            (subst (λ (ls : List Lit). (ls ≡ old.clause.items) ⊎ (ls ≡ old.clause.items ++ opposite x.0 ∷ []))
            (sym c.deref.ensures.value) (c.follow_step.ensures.kept x.0 x.2)))
        | inr y ↦ absurd (omega (arith, y.0, c.loop-at-test.true, c.loop-at.auto.at, c.len-at.ensures))
      ];
      count = omega (arith, old.invariant.count, c.follow_step.ensures.count, c.loop-at-test.true);
      named = omega (arith, old.invariant.named, c.follow_step.ensures.chain_grows);
      clause_room = c.follow_step.ensures.clause_room ∙ old.invariant.clause_room;
      chain_room = c.follow_step.ensures.chain_room ∙ old.invariant.chain_room;
    }
