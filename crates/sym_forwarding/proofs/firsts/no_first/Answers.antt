use Rattle.sym_forwarding.specs.Symbolic.{forwarding_of}
use Rattle.sym_forwarding.proofs.FirstHops.{none_first}
use Rattle.term_store.specs.Terms.{at}
use Rattle.sym_forwarding.proofs.firsts.no_first.Goals as goal

pub returns-clause-value : goal.returns-clause-value
returns-clause-value c = λ w reads sought test hop.
    let to = c.in_ok-to.ensures in
    none_first sought test hop (at w c.in_ok-any.any) (forwarding_of w c.in_ok-to.to)
    (c.in_ok-any.ensures.value w (to.builds.reads w reads)) (to.value w reads sought)
