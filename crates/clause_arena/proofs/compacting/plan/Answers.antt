use Rattle.std.specs.Prelude.{◌+◌, ◌*◌, ◌%◌, map, refl, length}
use Rattle.std.proofs.Common.{arith}
use Rattle.clause_arena.specs.Links.{word}
use Rattle.clause_arena.specs.Compacted.{packed}
use Rattle.clause_arena.proofs.Places.{in_at}
use Rattle.clause_arena.proofs.Planning.{planned_none, planned_more, planned_all, packed_more}
use Rattle.clause_arena.proofs.compacting.plan.Goals as goal

pub loop-i-init : goal.loop-i-init
loop-i-init c =
    let a = c.args in
    record {
      planned = planned_none a.vars (length a.words.now) (word a.words.now) a.refs.now a.moved.now
          c.requires.sound.laid c.requires.count;
      dense = refl;
    }

pub size_in-requires-clause-held : goal.size_in-requires-clause-held
size_in-requires-clause-held c = in_at c.args.refs.now c.loop-i.i c.loop-i-test.true

pub overflow_add-start : goal.overflow_add-start
overflow_add-start c =
    let a = c.args in
    let p = planned_more a.vars (length a.words.now) (word a.words.now) a.refs.now c.loop-i.moved c.loop-i.end
    c.loop-i.i (c.loop-i.end + c.loop-i.end % 2) (word a.words.now (word a.refs.now c.loop-i.i))
    c.requires.sound.laid c.loop-i.invariant.planned c.loop-i-test.true refl refl in
    omega (arith, p.fits)

pub overflow_add-end-in-loop-i : goal.overflow_add-end-in-loop-i
overflow_add-end-in-loop-i c =
    let a = c.args in
    let p = planned_more a.vars (length a.words.now) (word a.words.now) a.refs.now c.loop-i.moved c.loop-i.end
    c.loop-i.i (c.loop-i.end + c.loop-i.end % 2) c.size_in.result c.requires.sound.laid c.loop-i.invariant.planned
    c.loop-i-test.true refl c.size_in.ensures.value in
    omega (arith, p.fits)

pub loop-i-preserved : goal.loop-i-preserved
loop-i-preserved c =
    let a = c.args in
    record {
      planned = planned_more a.vars (length a.words.now) (word a.words.now) a.refs.now c.loop-i.moved c.loop-i.end
          c.loop-i.i _ c.size_in.result c.requires.sound.laid c.loop-i.invariant.planned c.loop-i-test.true refl
          c.size_in.ensures.value;
      dense = packed_more (word a.words.now) a.refs.now (packed (2 * a.vars) (map (word a.words.now) a.refs.now))
          c.loop-i.end c.loop-i.i _ c.size_in.result c.loop-i-test.true refl c.size_in.ensures.value
          c.loop-i.invariant.dense;
    }

pub returns-clause-plan : goal.returns-clause-plan
returns-clause-plan c =
    let a = c.args in
    planned_all a.vars (length a.words.now) (word a.words.now) a.refs.now c.loop-i.moved c.loop-i.end c.loop-i.i
    c.loop-i.invariant.planned (omega (arith, c.loop-i.auto.i-end, c.loop-i-test.false))
