use Rattle.std.proofs.Common.{◌≡◌, ◌∙◌, ap₂, true}
use Rattle.std.specs.Prelude.{◌&&◌, ◌↔◌}
use Rattle.std.proofs.lemmas.Result.{IfOk-weaker}
use Rattle.term_store.specs.declared.NodeId.{NodeId}
use Rattle.term_store.specs.Reading.{Reads}
use Rattle.term_store.specs.Terms.{Reading, at}
use Rattle.joined_terms.specs.Joining.{behind}
use Rattle.peers_beside.specs.Same.{announced_at}
use Rattle.peers_beside.proofs.Alike.{parts_tell}
use Rattle.peers_beside.proofs.announced.same_shape.Goals as goal

pub returns-clause-value : goal.returns-clause-value
returns-clause-value c =
    IfOk-weaker c.both-2.result
    (λ (r : NodeId). (w : Reading) → Reads w c.both-2.new.terms →
    at w r ≡ (at w c.in_ok-path.path && at w c.in_ok-rest.rest))
    (λ (r : NodeId). (w : Reading) → Reads w c.both-2.new.terms →
    at w r ≡ true ↔ announced_at w c.args.a.now ≡ announced_at (behind c.args.places.now w) c.args.b.now)
    (λ r is w reads.
    let after_rest = c.both-2.ensures.builds.reads w reads in
    let after_merits = c.both.ensures.builds.reads w after_rest in
    let after_lists = c.same_merits.ensures.builds.reads w after_merits in
    let after_path = c.same_lists.ensures.builds.reads w after_lists in
    parts_tell w (behind c.args.places.now w) c.args.a.now c.args.b.now (at w r) c.requires.lists
    (is w reads
    ∙ ap₂ (λ p q. p && q) (c.in_ok-path.ensures.value w after_path)
    (c.in_ok-rest.ensures.value w after_rest
    ∙ ap₂ (λ p q. p && q) (c.in_ok-lists.ensures.value w after_lists)
    (c.in_ok-merits.ensures.value w after_merits))))
    c.both-2.ensures.value
