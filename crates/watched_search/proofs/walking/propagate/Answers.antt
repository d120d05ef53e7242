use Rattle.std.proofs.Common.{◌≡◌, ◌+◌, ◌≤◌, true, length, sym}
use Rattle.std.proofs.Common.{subst, ◌∙◌, arith}
use Rattle.resolution_check.specs.declared.log.Lit.{Lit}
use Rattle.resolution_check.specs.Trails.{fails}
use Rattle.clause_arena.specs.Held.{code_of}
use Rattle.conflict_analysis.proofs.Followed.{own_fails}
use Rattle.watched_search.specs.Watches.{AllTrue}
use Rattle.watched_search.proofs.Moved.{view_then}
use Rattle.watched_search.proofs.Starts.{none_found}
use Rattle.watched_search.proofs.Walks.{extends_then, extends_within, looked_less, looked_more, still_there}
use Rattle.watched_search.proofs.walking.propagate.Goals as goal

pub returns-then-at-len-clause-kept : goal.returns-then-at-len-clause-kept
returns-then-at-len-clause-kept c =
    let i = c.loop-at.invariant in
    looked_less c.loop-at.arena c.loop-at.assigned.lits c.loop-at.assigned.levels c.args.from c.loop-at.at i.above
    i.kept

pub visit_watches-found-requires-clause-is_false : goal.visit_watches-found-requires-clause-is_false
visit_watches-found-requires-clause-is_false c =
    let ls = c.loop-at.assigned.lits in
    let t = c.loop-at.invariant.trail in
    subst (λ (l : Lit). fails ls l ≡ true) (sym c.opposite-falsified.ensures)
    (own_fails ls c.loop-at.at c.lit.result c.lit.ensures.there
    (t.fresh c.loop-at.at c.lit.result c.lit.ensures.there))

pub returns-then-is_some-clause-kept : goal.returns-then-is_some-clause-kept
returns-then-is_some-clause-kept c =
    looked_less c.visit_watches-found.new.arena c.visit_watches-found.new.assigned.lits
    c.visit_watches-found.new.assigned.levels c.args.from c.loop-at.at c.loop-at.invariant.above
    c.visit_watches-found.ensures.kept

pub loop-at-preserved : goal.loop-at-preserved
loop-at-preserved c =
    let i = c.loop-at.invariant in
    let v = c.visit_watches-found in
    let b = c.visit_watches-found.new.arena in
    let ls = c.loop-at.assigned.lits in
    let more = c.visit_watches-found.new.assigned.lits in
    let x = c.visit_watches-found.ensures.extends in
    let none = none_found c.visit_watches-found.result (sym c.is_some.ensures ∙ c.if-is_some.false) in
    let low : c.loop-at.at + 1 ≤ length c.loop-at.assigned.lits =
    omega (arith, c.if-at-len.false, c.len.ensures.len) in
    record {
      vars = v.ensures.vars ∙ i.vars ∙ sym v.ensures.view.vars;
      view = view_then c.args.arena.now c.loop-at.arena b i.view v.ensures.view;
      trail = v.ensures.trail;
      kept = looked_more b more c.visit_watches-found.new.assigned.levels c.loop-at.at c.lit.result
          c.words_are_sound.ensures
          (still_there ls more c.loop-at.at c.lit.result x c.lit.ensures.there)
          (subst (λ (l : Lit). AllTrue b more (code_of l)) c.opposite-falsified.ensures (v.ensures.walked none))
          v.ensures.kept;
      above = omega (arith, i.above);
      within = extends_within ls more (c.loop-at.at + 1) x low;
      level = v.ensures.level ∙ i.level;
      extends = extends_then c.args.assigned.now.lits ls more i.extends x;
    }
