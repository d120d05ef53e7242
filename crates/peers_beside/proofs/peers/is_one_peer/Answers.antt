use Rattle.std.proofs.Common.{◌≡◌, ◌≤◌, ◌+◌, ◌*◌, ◌∙◌, List, ap₂, arith, length, map, subst, sym, true, slice_get}
use Rattle.std.specs.Prelude.{◌&&◌, ◌↔◌, All}
use Rattle.std.proofs.lemmas.Option.{slice_get_within}
use Rattle.std.proofs.lemmas.Result.{IfOk-weaker}
use Rattle.net_parts.specs.Sessions.{ends_of}
use Rattle.bgp_equations.specs.Environments.{HasLists}
use Rattle.sym_policy.specs.declared.records.SymBgp.{SymBgp}
use Rattle.term_arith.specs.declared.Bits.{Bits}
use Rattle.term_store.specs.declared.NodeId.{NodeId}
use Rattle.term_store.specs.Reading.{Reads}
use Rattle.term_store.specs.Terms.{Reading, at}
use Rattle.joined_terms.specs.Joining.{behind}
use Rattle.peers_beside.specs.Same.{IsOnePeer, announced_by, row, same_id}
use Rattle.peers_beside.proofs.AlikeRows.{lists_rows}
use Rattle.peers_beside.proofs.WholeEnvironments.{peer_tells, row_there}
use Rattle.peers_beside.proofs.peers.is_one_peer.Goals as goal

pub number_of-one-requires : goal.number_of-one-requires
number_of-one-requires c =
    let sides = c.args.sides.now in
    let within = slice_get_within (ends_of sides.left.now.files) c.args.pair.now.one c.requires.pair.0
    c.requires.pair.2 in
    omega (arith, within)

pub number_of-other-requires : goal.number_of-other-requires
number_of-other-requires c =
    let sides = c.args.sides.now in
    let within = slice_get_within (ends_of sides.right.now.files) c.args.pair.now.other c.requires.pair.1
    c.requires.pair.3 in
    omega (arith, within)

pub same_lengths-requires-clause-here : goal.same_lengths-requires-clause-here
same_lengths-requires-clause-here c =
    let sides = c.args.sides.now in
    let count = length sides.lens.now in
    subst (λ (xs : List SymBgp). c.number_of-one.result * count + count ≤ length xs) (sym c.as_slice-3.ensures)
    (row_there sides.left.now.files sides.left.now.tracked sides.lens.now sides.a.now c.args.pair.now.one
    c.requires.pair.0 c.number_of-one.result c.requires.fits c.requires.pair.2 c.requires.pair.4.0
    c.number_of-one.ensures)

pub same_lengths-requires-clause-there : goal.same_lengths-requires-clause-there
same_lengths-requires-clause-there c =
    let sides = c.args.sides.now in
    let count = length sides.lens.now in
    subst (λ (xs : List SymBgp). c.number_of-other.result * count + count ≤ length xs) (sym c.as_slice-4.ensures)
    (row_there sides.right.now.files sides.right.now.tracked sides.lens.now sides.b.now c.args.pair.now.other
    c.requires.pair.1 c.number_of-other.result c.requires.fits_too c.requires.pair.3 c.requires.pair.4.1
    c.number_of-other.ensures)

pub same_lengths-requires-clause-lists : goal.same_lengths-requires-clause-lists
same_lengths-requires-clause-lists c =
    let sides = c.args.sides.now in
    lists_rows sides.left.now.tracked sides.right.now.tracked (length sides.lens.now) c.as_slice-3.result.now
    c.as_slice-4.result.now c.number_of-one.result c.number_of-other.result c.requires.tracked
    (subst (All (HasLists sides.left.now.tracked)) (sym c.as_slice-3.ensures) c.requires.fits.lists)
    (subst (All (HasLists sides.right.now.tracked)) (sym c.as_slice-4.ensures) c.requires.fits_too.lists)

pub returns-clause-value : goal.returns-clause-value
returns-clause-value c =
    let sides = c.args.sides.now in
    let u = behind sides.places.now in
    let count = length sides.lens.now in
    IfOk-weaker c.both.result
    (λ (r : NodeId). (w : Reading) → Reads w c.both.new.terms →
    at w r ≡ (at w c.in_ok-id.id && at w c.in_ok-announced.announced))
    (λ (r : NodeId). (w : Reading) → Reads w c.both.new.terms → at w r ≡ true
    ↔ IsOnePeer sides.left.now.files sides.right.now.files count w (u w) sides.a.now sides.b.now c.args.pair.now)
    (λ r is w reads.
    let after_announced = c.both.ensures.builds.reads w reads in
    let after_id = c.same_lengths.ensures.builds.reads w after_announced in
    peer_tells sides.left.now.files sides.right.now.files count w (u w) sides.a.now sides.b.now c.args.pair.now
    c.number_of-one.result c.number_of-other.result (at w c.in_ok-id.id) (at w c.in_ok-announced.announced) (at w r)
    c.number_of-one.ensures c.number_of-other.ensures
    (c.in_ok-id.ensures.value w after_id
    ∙ ap₂ (λ (xs ys : List Bits). same_id w (u w) (slice_get xs c.number_of-one.result)
    (slice_get ys c.number_of-other.result)) c.as_slice.ensures c.as_slice-2.ensures)
    (subst (λ (ys : List SymBgp). at w c.in_ok-announced.announced ≡ true
    ↔ map (announced_by w) (row count sides.a.now.announced c.number_of-one.result)
    ≡ map (announced_by (u w)) (row count ys c.number_of-other.result)) c.as_slice-4.ensures
    (subst (λ (xs : List SymBgp). at w c.in_ok-announced.announced ≡ true
    ↔ map (announced_by w) (row count xs c.number_of-one.result)
    ≡ map (announced_by (u w)) (row count c.as_slice-4.result.now c.number_of-other.result)) c.as_slice-3.ensures
    (c.in_ok-announced.ensures.value w after_announced)))
    (is w reads))
    c.both.ensures.value
