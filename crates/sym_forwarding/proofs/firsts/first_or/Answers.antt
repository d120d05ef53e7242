use Rattle.std.proofs.Common.{◌&&◌, ◌∙◌, ap}
use Rattle.sym_forwarding.specs.Symbolic.{forwarding_of}
use Rattle.sym_forwarding.proofs.FirstHops.{first_more}
use Rattle.term_store.specs.Terms.{at}
use Rattle.sym_forwarding.proofs.firsts.first_or.Goals as goal

pub returns-clause-value : goal.returns-clause-value
returns-clause-value c = λ w reads sought test hop xs x before passes twin.
    let any = c.in_ok-any.ensures in
    let made = c.in_ok-made.ensures in
    let first = c.in_ok-first.ensures in
    let none = c.in_ok-none.ensures in
    let after_made = any.builds.reads w reads in
    let after_first = made.builds.reads w after_made in
    let after_none = first.builds.reads w after_first in
    first_more sought test hop xs x (at w c.args.before.any) (at w c.args.passes) (at w c.in_ok-any.any)
    (at w c.in_ok-first.first) (forwarding_of w c.args.before.to) (forwarding_of w c.args.to.now)
    (forwarding_of w c.in_ok-made.made) before passes twin
    (first.value w after_first ∙ ap (λ b. b && at w c.args.passes) (none.value w after_none))
    (any.value w reads) (made.value w after_made)
