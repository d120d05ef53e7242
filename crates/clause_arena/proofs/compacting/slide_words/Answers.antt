use Rattle.std.specs.Prelude.{ℕ, length}
use Rattle.std.proofs.Common.{sym, subst}
use Rattle.clause_arena.specs.Links.{word}
use Rattle.clause_arena.specs.Store.{IsLaid}
use Rattle.clause_arena.specs.Compacted.{IsPlan}
use Rattle.clause_arena.proofs.Renaming.{renamed_down}
use Rattle.clause_arena.proofs.Compaction.{laid_mended, plan_mended, links_mended, head_link, slides_whole}
use Rattle.clause_arena.proofs.compacting.slide_words.Goals as goal

pub mend_heads-requires-clause-down : goal.mend_heads-requires-clause-down
mend_heads-requires-clause-down c = λ r.
    renamed_down c.args.refs.now c.plan-end.new.moved r c.plan-end.ensures.plan.down

pub mend_heads-requires-clause-links : goal.mend_heads-requires-clause-links
mend_heads-requires-clause-links c = λ n h.
    head_link c.args.vars c.args.words.now c.args.refs.now n c.requires.sound h

pub slide_all-requires-clause-laid : goal.slide_all-requires-clause-laid
slide_all-requires-clause-laid c =
    let a = c.args in
    subst (λ (k : ℕ). IsLaid a.vars k (word c.mend_heads.new.words) a.refs.now) (sym c.mend_heads.ensures.len)
    (laid_mended a.vars (length a.words.now) (word a.words.now) (word c.mend_heads.new.words) a.refs.now
    c.plan-end.new.moved c.requires.sound.laid c.mend_heads.ensures.mends)

pub slide_all-requires-clause-plan : goal.slide_all-requires-clause-plan
slide_all-requires-clause-plan c =
    let a = c.args in
    subst (λ (k : ℕ). IsPlan a.vars k (word c.mend_heads.new.words) a.refs.now c.plan-end.new.moved c.plan-end.result)
    (sym c.mend_heads.ensures.len)
    (plan_mended a.vars (length a.words.now) c.plan-end.result (word a.words.now) (word c.mend_heads.new.words)
    a.refs.now c.plan-end.new.moved c.requires.sound.laid c.mend_heads.ensures.mends c.plan-end.ensures.plan)

pub slide_all-requires-clause-links : goal.slide_all-requires-clause-links
slide_all-requires-clause-links c =
    let a = c.args in
    links_mended a.vars a.words.now a.refs.now c.plan-end.new.moved (word c.mend_heads.new.words) c.requires.sound
    c.mend_heads.ensures.mends

pub returns-clause-slides : goal.returns-clause-slides
returns-clause-slides c =
    let a = c.args in
    slides_whole a.vars (length a.words.now) (word a.words.now) (word c.mend_heads.new.words)
    (word c.slide_all.new.words) a.refs.now c.plan-end.new.moved c.requires.sound.laid c.mend_heads.ensures.mends
    c.slide_all.ensures.slides
