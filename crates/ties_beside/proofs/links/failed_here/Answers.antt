use Rattle.term_store.specs.Terms.{size}
use Rattle.ties_beside.proofs.Placing.{some_within}
use Rattle.ties_beside.proofs.links.failed_here.Goals as goal

pub returns-in-Some-clause-within : goal.returns-in-Some-clause-within
returns-in-Some-clause-within c =
    some_within c.args.ids.now c.args.place c.in-Some.id.now (size c.args.terms.now) c.in-Some.ensures.lookup.3.0
    (c.in-Some.ensures.lookup.3.1 (record { 0 = 0 })) c.requires
