use Rattle.std.proofs.Common.{◌≤◌, ◌<◌, ◌-◌, get_or, length, arith, rules, sym}
use Rattle.std.proofs.lemmas.Grind.{common_steps}
use Rattle.async_machine.proofs.Ascending.{neighbours_more, up_by_neighbours}
use Rattle.async_machine.proofs.announcements.do_ascend.Goals as goal

pub loop-at-preserved : goal.loop-at-preserved
loop-at-preserved c =
    let less : get_or c.args.numbers.now (c.loop-at.at - 1) 0 < get_or c.args.numbers.now c.loop-at.at 0 =
    first_of (search rules, grind (arith, common_steps)) in
    neighbours_more c.args.numbers.now c.loop-at.at (omega arith) c.loop-at.invariant less

pub returns : goal.returns
returns c =
    let past : length c.args.numbers.now ≤ c.loop-at.at = omega arith in
    sym (up_by_neighbours c.args.numbers.now (λ k h. c.loop-at.invariant k (omega (arith, past, h))))
