use Rattle.std.proofs.Common.{◌≡◌, ℕ, ◌+◌, ◌-◌, ◌≤◌, arith}
use Rattle.clause_arena.specs.Links.{word}
use Rattle.watched_search.proofs.Back.{count_is}
use Rattle.watched_search.proofs.stepping.count_up_to.Goals as goal

pub returns-then-levels-at : goal.returns-then-levels-at
returns-then-levels-at c =
    let levels = c.args.levels.now in
    let at : ℕ = c.loop-at.at - 1 in
    let here : word c.args.levels.now (c.loop-at.at - 1) ≤ c.args.level = c.if-levels-at.true in
    let up : c.loop-at.at ≡ c.loop-at.at - 1 + 1 = omega (arith, c.loop-at-test.true) in
    count_is levels c.args.level (c.loop-at.at - 1 + 1) (omega (arith, c.loop-at-test.true, c.loop-at.auto.at))
    (λ j less.
    let h : word c.args.levels.now j ≤ word c.args.levels.now (c.loop-at.at - 1) =
    c.requires j (c.loop-at.at - 1) (omega arith) (omega (arith, c.loop-at-test.true, c.loop-at.auto.at)) in
    omega arith)
    (λ less. c.loop-at.invariant (c.loop-at.at - 1 + 1) (omega arith) less)
