use Rattle.std.proofs.Common.{Bool, subst}
use Rattle.sym_forwarding.specs.Choices.{IsUnion}
use Rattle.sym_forwarding.specs.Symbolic.{forwarding_of}
use Rattle.sym_forwarding.proofs.firsts.first_else.Goals as goal

pub returns-clause-value : goal.returns-clause-value
returns-clause-value c = λ w reads.
    let made = c.in_ok-made.ensures in
    let P : Bool → Type 0 = λ b. IsUnion b (forwarding_of w c.args.first.to) (forwarding_of w c.args.other.now)
    (forwarding_of w c.in_ok-made.made) in
    subst P (c.in_ok-none.ensures.value w (made.builds.reads w reads)) (made.value w reads)
