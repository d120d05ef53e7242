use Rattle.std.proofs.Common.{◌≤◌, ap, sym, ◌∙◌, List, ℕ, arith, take}
use Rattle.conflict_analysis.specs.Levels.{count_to}
use Rattle.watched_search.specs.Trails.{last_level}
use Rattle.watched_search.proofs.Back.{all_low, last_taken}
use Rattle.watched_search.proofs.deciding.restart.Goals as goal

pub returns-clause-ground : goal.returns-clause-ground
returns-clause-ground c =
    let ns = c.args.assigned.now.levels in
    let low : last_level (take (count_to c.args.assigned.now.levels 0) c.args.assigned.now.levels) ≤ 0 =
    last_taken ns 0 in
    ap (λ (ms : List ℕ). last_level ms) c.back_to.ensures.levels ∙ omega arith

pub returns-then-level-eq0-clause-lits : goal.returns-then-level-eq0-clause-lits
returns-then-level-eq0-clause-lits c =
    let s = c.args.assigned.now in
    sym (all_low s.lits s.levels c.requires.trail.level_count c.requires.trail.rising
    (sym c.level.ensures ∙ c.if-level-eq0.true))
