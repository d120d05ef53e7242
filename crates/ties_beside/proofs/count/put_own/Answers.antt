use Rattle.std.proofs.Common.{◌+◌, ◌∙◌, ◌++◌, ◌∷◌, [], ap, drop, if◌then◌else◌, List, sym}
use Rattle.std.proofs.lemmas.List.{append-nil}
use Rattle.term_store.specs.declared.NodeId.{NodeId}
use Rattle.ties_beside.proofs.Counting.{own_none, own_places, own_step}
use Rattle.ties_beside.proofs.count.put_own.Goals as goal

pub loop-at-preserved : goal.loop-at-preserved
loop-at-preserved c =
    let at = c.loop-at.at in
    let out = c.loop-at.out in
    let places = c.args.places.now in
    let pairs = c.args.pairs.now in
    let ids = c.args.ids.now in
    let rest = own_places places pairs (at + 1) (drop (at + 1) ids) in
    ap (λ (xs : List NodeId). xs ++ rest) c.in_ok-put_where.ensures
    ∙ (λ i. (if c.is_own-own.ensures i then out ++ c.place_of.ensures i ∷ [] else out) ++ rest)
    ∙ own_step places pairs out ids at (record { 0 = 0 }) c.loop-at-test.true
    ∙ c.loop-at.invariant

pub returns : goal.returns
returns c =
    let at = c.loop-at.at in
    let out = c.loop-at.out in
    sym (append-nil out)
    ∙ ap (λ (xs : List NodeId). out ++ xs)
    (sym (own_none c.args.places.now c.args.pairs.now c.args.ids.now at c.loop-at-test.false))
    ∙ c.loop-at.invariant
