use Rattle.std.proofs.Common.{◌≡◌, ◌<◌, ◌∙◌, ap, arith, get_or, not, refl, subst, sym, true}
use Rattle.std.specs.Prelude.{◌↔◌}
use Rattle.std.proofs.lemmas.Option.{slice_get-get_or}
use Rattle.std.proofs.lemmas.Result.{IfOk-weaker}
use Rattle.term_arith.proofs.NumberLemmas.{ids_end_at}
use Rattle.term_store.specs.declared.NodeId.{NodeId}
use Rattle.term_store.specs.Reading.{Reads}
use Rattle.term_store.specs.Terms.{Reading, at, differ, size}
use Rattle.ties_beside.proofs.Placing.{place_within}
use Rattle.compared_terms.specs.Ties.{DiffersAt}
use Rattle.compared_terms.proofs.Apart.{differs_there, not_not}
use Rattle.compared_terms.proofs.differing.sym_differs.Goals as goal

pub agree-requires-clause-first : goal.agree-requires-clause-first
agree-requires-clause-first c =
    let less = c.requires.there in
    let node = ids_end_at c.args.a.now c.args.at (record { 0 = 0 }) less in
    let all = c.requires.first in
    omega (arith, node, all)

pub agree-requires-clause-second : goal.agree-requires-clause-second
agree-requires-clause-second c =
    subst (λ (n : NodeId). n.0 < size c.args.terms.now) (sym c.place_of-other.ensures)
    (place_within c.args.places.now c.args.b.now c.args.at (get_or c.args.b.now c.args.at (record { 0 = 0 }))
    (size c.args.terms.now) c.requires.there_too refl c.requires.second c.requires.places)

pub returns-clause-value : goal.returns-clause-value
returns-clause-value c =
    let places = c.args.places.now in
    let a = c.args.a.now in
    let b = c.args.b.now in
    let k = c.args.at in
    let x = get_or a k (record { 0 = 0 }) in
    let y = get_or b k (record { 0 = 0 }) in
    IfOk-weaker c.negate.result
    (λ (r : NodeId). (w : Reading) → Reads w c.negate.new.terms → at w r ≡ not (at w c.in_ok-same.same))
    (λ (r : NodeId). (w : Reading) → Reads w c.negate.new.terms → at w r ≡ true ↔ DiffersAt w places a b k)
    (λ r is w reads.
    differs_there w places a b k x y (at w r)
    (slice_get-get_or a k (record { 0 = 0 }) c.requires.there)
    (slice_get-get_or b k (record { 0 = 0 }) c.requires.there_too)
    (is w reads ∙ ap not (c.in_ok-same.ensures.value w (c.negate.ensures.builds.reads w reads))
    ∙ not_not (differ (at w x) (at w c.place_of-other.result))
    ∙ ap (λ (n : NodeId). differ (at w x) (at w n)) c.place_of-other.ensures))
    c.negate.ensures.value
