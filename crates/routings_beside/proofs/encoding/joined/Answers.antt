use Rattle.std.proofs.Common.{◌<◌, ◌&&◌, ◌∙◌, ap, arith, List, refl, subst, sym}
use Rattle.std.specs.Prelude.{get_or, slice_index_or}
use Rattle.term_store.specs.declared.NodeId.{NodeId}
use Rattle.term_store.specs.Terms.{at, reading_of, size}
use Rattle.term_arith.proofs.NumberLemmas.{ids_end_at}
use Rattle.terms_beside.specs.Beside.{values_beside}
use Rattle.routings_beside.proofs.Readings.{agrees_so_many}
use Rattle.routings_beside.proofs.encoding.joined.Goals as goal

pub both-requires-clause-second : goal.both-requires-clause-second
both-requires-clause-second c =
    let places = c.in_ok-places.places in
    let root = c.args.out.0 in
    let within = c.in_ok-places.ensures.within in
    let long = c.in_ok-places.ensures.length in
    let there = c.requires.other in
    let place = ids_end_at places root (record { 0 = 0 }) (omega (arith, there, long)) in
    let less : (get_or places root (record { 0 = 0 })).0 < size c.put_beside.new.into = omega (arith, place, within) in
    subst (λ (xs : List NodeId). (slice_index_or xs root (record { 0 = 0 })).0 < size c.put_beside.new.into)
    (sym c.as_slice.ensures) less

pub returns-clause-larger : goal.returns-clause-larger
returns-clause-larger c =
    let first = c.put_beside.ensures.grows.larger in
    let second = c.both.ensures.builds.larger in omega (arith, first, second)

pub returns-clause-places : goal.returns-clause-places
returns-clause-places c =
    let first = c.in_ok-places.ensures.within in
    let second = c.both.ensures.builds.larger in omega (arith, first, second)

pub returns-clause-beside : goal.returns-clause-beside
returns-clause-beside c = λ w reads valuation agrees.
    c.in_ok-places.ensures.values w (c.both.ensures.builds.reads w reads) valuation
    (agrees_so_many w valuation _ _ c.both.ensures.builds.same_vars agrees)

pub returns-clause-besides : goal.returns-clause-besides
returns-clause-besides c = λ w reads xs ys agrees.
    c.in_ok-places.ensures.given w (c.both.ensures.builds.reads w reads) xs ys
    (agrees_so_many w (values_beside c.args.one c.args.other.now xs ys) _ _ c.both.ensures.builds.same_vars agrees)

pub returns-clause-root : goal.returns-clause-root
returns-clause-root c = λ w reads.
    let root = c.args.out.0 in
    let place = ap (λ (xs : List NodeId). at w (get_or xs root (record { 0 = 0 }))) c.as_slice.ensures in
    c.in_ok-root.ensures.value w reads ∙ (λ i. at w c.args.root && place i)

pub returns-clause-values : goal.returns-clause-values
returns-clause-values c = λ valuation.
    let w = reading_of c.both.new.terms.nodes valuation in
    let reads = c.valuation_reads.ensures valuation in
    let root = c.args.out.0 in
    let beside = c.in_ok-places.ensures.values w (c.both.ensures.builds.reads w reads) valuation (λ k less. refl) in
    let first = beside.first c.args.root.0 c.requires.one in
    let second = ap (λ (xs : List NodeId). at w (get_or xs root (record { 0 = 0 }))) c.as_slice.ensures
    ∙ beside.second root c.requires.other in
    c.in_ok-root.ensures.value w reads ∙ (λ i. first i && second i)

pub returns-clause-given : goal.returns-clause-given
returns-clause-given c = λ xs ys.
    let valuation = values_beside c.args.one c.args.other.now xs ys in
    let w = reading_of c.both.new.terms.nodes valuation in
    let reads = c.valuation_reads.ensures valuation in
    let root = c.args.out.0 in
    let beside = c.in_ok-places.ensures.given w (c.both.ensures.builds.reads w reads) xs ys (λ k less. refl) in
    let first = beside.first c.args.root.0 c.requires.one in
    let second = ap (λ (xs : List NodeId). at w (get_or xs root (record { 0 = 0 }))) c.as_slice.ensures
    ∙ beside.second root c.requires.other in
    c.in_ok-root.ensures.value w reads ∙ (λ i. first i && second i)
