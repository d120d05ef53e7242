use Rattle.std.specs.Prelude.{refl}
use Rattle.std.proofs.Common.{inl, inr}
use Rattle.clause_arena.specs.Links.{places}
use Rattle.clause_arena.proofs.Searching.{behind_start, step_to, link_within}
use Rattle.clause_arena.proofs.deleting.link_to.Goals as goal

pub loop-link-init : goal.loop-link-init
loop-link-init c = record {
  here = inl refl;
  ahead = behind_start c.args.code c.args.place (places c.args.words.now c.args.code) c.requires.place;
}

pub read-requires : goal.read-requires
read-requires c =
    let a = c.args in
    link_within a.vars a.words.now a.refs.now a.code c.loop-link.link c.requires.sound c.requires.code
    c.loop-link.invariant.here

pub read-link-requires : goal.read-link-requires
read-link-requires c =
    let a = c.args in
    link_within a.vars a.words.now a.refs.now a.code c.loop-link.link c.requires.sound c.requires.code
    c.loop-link.invariant.here

pub loop-link-smaller : goal.loop-link-smaller
loop-link-smaller c =
    let a = c.args in
    let k = step_to a.vars a.words.now a.refs.now a.code c.loop-link.link c.read.result c.read-link.result a.place
    c.requires.sound c.requires.code c.loop-link.invariant.here c.loop-link.invariant.ahead c.read.ensures
    c.read-link.ensures c.loop-link-test.true in
    k.fewer

pub loop-link-preserved : goal.loop-link-preserved
loop-link-preserved c =
    let a = c.args in
    let k = step_to a.vars a.words.now a.refs.now a.code c.loop-link.link c.read.result c.read-link.result a.place
    c.requires.sound c.requires.code c.loop-link.invariant.here c.loop-link.invariant.ahead c.read.ensures
    c.read-link.ensures c.loop-link-test.true in
    record { here = inr k.here; ahead = k.ahead }
