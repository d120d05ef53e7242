use Rattle.std.proofs.Common.{ℕ, ◌≡◌, ◌||◌, ◌++◌, ◌∷◌, [], List, ap, sym, subst, ◌∙◌, length}
use Rattle.std.proofs.Math.Bool.{or-false}
use Rattle.resolution_check.specs.declared.log.Lit.{Lit}
use Rattle.resolution_check.specs.Earned.{has_var}
use Rattle.clause_arena.specs.Held.{lits_of}
use Rattle.conflict_analysis.specs.Lessons.{marked, IsOnWay}
use Rattle.conflict_analysis.proofs.Below.{false_below}
use Rattle.conflict_analysis.proofs.Points.{way_first}
use Rattle.conflict_analysis.proofs.work.begin.Goals as goal

pub mark_clause-requires-clause-below : goal.mark_clause-requires-clause-below
mark_clause-requires-clause-below c =
    false_below (length c.args.marks.now) c.args.trail.now.lits.items
    (lits_of c.args.arena.now c.args.conflict.0) c.requires.start.0.below c.requires.start.1.1

pub returns-clause-begun : goal.returns-clause-begun
returns-clause-begun c =
    let lits = lits_of c.args.arena.now c.args.conflict.0 in
    record {
      same = λ v. c.mark_clause.ensures v ∙ ap (λ b. has_var lits v || b) (c.requires.ready.unmarked v)
          ∙ or-false (has_var lits v);
      highest = c.top_level.ensures;
    }

pub returns-clause-way : goal.returns-clause-way
returns-clause-way c =
    let a = c.args.arena.now in
    let ss = c.args.trail.now.lits.items in
    let levels = c.args.trail.now.levels.items in
    let top = c.top_level.result in
    let lits = lits_of a c.args.conflict.0 in
    let marks = marked c.mark_clause.new.marks in
    let same : (v : ℕ) → marked c.mark_clause.new.marks v ≡ has_var lits v =
    λ v. c.mark_clause.ensures v ∙ ap (λ b. has_var lits v || b) (c.requires.ready.unmarked v)
    ∙ or-false (has_var lits v) in
    subst (λ (ids : List ℕ). IsOnWay a ss levels top (length ss) marks c.clear.new.self.items ids)
    (sym (c.push_reserved.ensures.items ∙ ap (λ (ids : List ℕ). ids ++ c.id.result ∷ []) c.clear-2.ensures.items))
    (subst (λ (kept : List Lit). IsOnWay a ss levels top (length ss) marks kept (c.id.result ∷ []))
    (sym c.clear.ensures.items)
    (way_first a ss levels top c.requires.start.0.level_count c.requires.start.0.rising c.requires.start.0.fresh
    lits marks
    c.requires.start.1.1 same c.top_level.ensures c.id.result c.id.ensures.numbered))
