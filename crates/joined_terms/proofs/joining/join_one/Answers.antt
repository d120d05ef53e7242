use Rattle.std.proofs.Common.{◌≡◌, ◌∙◌, ap, subst, sym}
use Rattle.mw_text.proofs.Results.{ok_then}
use Rattle.std.proofs.lemmas.Option.{same_Some}
use Rattle.term_store.specs.declared.Node.{Node}
use Rattle.term_store.specs.Reading.{Stands}
use Rattle.term_store.specs.Terms.{IsBelow, gate, size}
use Rattle.joined_terms.specs.Joining.{behind, moved}
use Rattle.joined_terms.proofs.Moving.{moved_below, moved_gate}
use Rattle.joined_terms.proofs.joining.join_one.Goals as goal

pub add-requires : goal.add-requires
add-requires c =
    subst (λ (n : Node). IsBelow (size c.args.into.now) c.args.into.now.vars n) (sym c.moved.ensures)
    (moved_below c.args.places.now c.args.id.0 (size c.args.into.now) c.args.from.now.vars c.args.into.now.vars
    c.get-node.result c.requires.count c.requires.within c.requires.vars c.get-node.ensures.below)

pub returns-clause-value : goal.returns-clause-value
unfolding Stands
returns-clause-value c =
    ok_then c.add.result c.add.ensures.value (λ r is w reads node there.
    is w reads ∙ ap (gate w) c.moved.ensures ∙ moved_gate c.args.places.now w c.get-node.result
    ∙ ap (gate (behind c.args.places.now w)) (same_Some c.get-node.result node (sym c.get-node.ensures.node ∙ there)))
