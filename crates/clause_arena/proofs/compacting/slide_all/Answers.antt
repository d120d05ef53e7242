use Rattle.std.specs.Prelude.{length, refl}
use Rattle.std.proofs.Common.{◌∙◌, arith}
use Rattle.clause_arena.specs.Links.{word}
use Rattle.clause_arena.proofs.Renaming.{renamed_down}
use Rattle.clause_arena.proofs.Sliding.{slid_none, slid_more, slid_all, inside_next, links_next}
use Rattle.clause_arena.proofs.compacting.slide_all.Goals as goal

pub loop-i-init : goal.loop-i-init
loop-i-init c = record {
  slid = slid_none c.args.refs.now c.args.moved.now (word c.args.words.now) c.args.vars;
  len = refl;
}

pub slide-requires-clause-down : goal.slide-requires-clause-down
slide-requires-clause-down c = λ r. renamed_down c.args.refs.now c.args.moved.now r c.requires.plan.down

pub slide-requires-clause-inside : goal.slide-requires-clause-inside
slide-requires-clause-inside c =
    let a = c.args in
    inside_next a.vars (length a.words.now) a.end a.refs.now a.moved.now (word a.words.now) (word c.loop-i.words)
    c.loop-i.i _ c.requires.laid c.loop-i-test.true c.loop-i.invariant.slid c.loop-i.invariant.len

pub slide-requires-clause-below : goal.slide-requires-clause-below
slide-requires-clause-below c = c.requires.plan.down c.loop-i.i c.loop-i-test.true

pub slide-requires-clause-links : goal.slide-requires-clause-links
slide-requires-clause-links c = λ side two low.
    links_next c.args.vars c.args.refs.now c.args.moved.now (word c.args.words.now) (word c.loop-i.words) c.loop-i.i
    side c.requires.links c.loop-i-test.true c.loop-i.invariant.slid two low

pub loop-i-preserved : goal.loop-i-preserved
loop-i-preserved c =
    let a = c.args in
    record {
      slid = slid_more a.vars (length a.words.now) a.end a.refs.now a.moved.now (word a.words.now) (word c.loop-i.words)
          (word c.slide.new.words) c.loop-i.i c.requires.laid c.requires.plan c.loop-i-test.true
          c.loop-i.invariant.slid c.slide.ensures.slides;
      len = c.slide.ensures.len ∙ c.loop-i.invariant.len;
    }

pub returns-clause-slides : goal.returns-clause-slides
returns-clause-slides c =
    let a = c.args in
    slid_all a.refs.now a.moved.now (word a.words.now) (word c.loop-i.words) a.vars c.loop-i.i c.loop-i.invariant.slid
    (omega (arith, c.loop-i.auto.i-end, c.loop-i-test.false))
