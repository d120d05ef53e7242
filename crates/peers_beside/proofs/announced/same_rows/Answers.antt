use Rattle.std.proofs.Common.{arith, length, refl}
use Rattle.std.proofs.lemmas.Option.{slice_get_read}
use Rattle.sym_policy.specs.Held.{bgp_end}
use Rattle.bgp_equations.proofs.Environments.{end_at}
use Rattle.peers_beside.proofs.announced.same_rows.Goals as goal

pub same_announced-requires-clause-first : goal.same_announced-requires-clause-first
same_announced-requires-clause-first c =
    let there = slice_get_read c.args.a.now (length c.args.a.now) c.loop-i.i c.index-a-i.result refl
    c.loop-i-test.true c.index-a-i.is in
    let end = end_at bgp_end c.args.a.now c.loop-i.i c.index-a-i.result there in
    let first = c.requires.first in
    let larger = c.loop-i.invariant.builds.larger in
    omega (arith, end, first, larger)

pub same_announced-requires-clause-second : goal.same_announced-requires-clause-second
same_announced-requires-clause-second c =
    let test = c.loop-i-test.true in
    let long = c.requires.long in
    let there = slice_get_read c.args.b.now (length c.args.b.now) c.loop-i.i c.index-b-i.result refl
    (omega (arith, test, long)) c.index-b-i.is in
    let end = end_at bgp_end c.args.b.now c.loop-i.i c.index-b-i.result there in
    let second = c.requires.second in
    omega (arith, end, second)
