use Rattle.std.proofs.Common.{◌<◌, subst, sym}
use Rattle.term_store.specs.declared.NodeId.{NodeId}
use Rattle.term_store.specs.Terms.{size}
use Rattle.ties_beside.proofs.Placing.{place_within}
use Rattle.ties_beside.proofs.links.failed_there.Goals as goal

pub returns-in-Some-clause-within : goal.returns-in-Some-clause-within
returns-in-Some-clause-within c =
    subst (λ (n : NodeId). n.0 < size c.args.terms.now) (sym c.place_of.ensures)
    (place_within c.args.places.now c.args.ids.now c.args.place c.in-Some.id.now (size c.args.terms.now)
    c.in-Some.ensures.lookup.3.0
    (c.in-Some.ensures.lookup.3.1 (record { 0 = 0 })) c.requires.ids c.requires.places)
