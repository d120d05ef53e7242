use Rattle.std.proofs.Common.{◌+◌, ◌≤◌, refl, arith}
use Rattle.term_store.proofs.Growth.{IsSound-more, Grows-same}
use Rattle.term_store.proofs.Terms.reserve.Goals as goal

pub invariant_of-self : goal.invariant_of-self
invariant_of-self c =
    let more : c.self.inside.vars ≤ c.self.inside.vars + c.args.count = omega arith in
    IsSound-more _ _ _ c.self.invariant more (omega (arith, c.self.invariant.few))

pub returns-clause-grows : goal.returns-clause-grows
returns-clause-grows c =
    let more : c.self.inside.vars ≤ c.self.inside.vars + c.args.count = omega arith in
    rw (← c.self.view_is) (Grows-same _ _ refl more)
