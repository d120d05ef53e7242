use Rattle.std.proofs.Common.{◌≡◌, Some, ap, arith, false, length, refl, slice_get, sym}
use Rattle.std.specs.Option.{option_map_or}
use Rattle.std.proofs.lemmas.Option.{slice_get_read}
use Rattle.term_store.specs.Terms.{at}
use Rattle.export_terms.proofs.Chains.{node_below}
use Rattle.export_terms.proofs.tracing.node_of.Goals as goal

pub returns-in-Some-clause-within : goal.returns-in-Some-clause-within
returns-in-Some-clause-within c =
    let found = c.in-Some.ensures.lookup in
    let there : slice_get c.args.nodes.now c.args.place ≡ Some c.in-Some.node.now =
    slice_get_read c.args.nodes.now (length c.args.nodes.now) c.args.place c.in-Some.node.now refl found.3.0 found.1 in
    let below = node_below c.args.nodes.now c.args.place c.in-Some.node.now there in
    let whole = c.requires in
    omega (arith, below, whole)

pub returns-in-Some-clause-value : goal.returns-in-Some-clause-value
returns-in-Some-clause-value c = λ w reads.
    let found = c.in-Some.ensures.lookup in
    let there : slice_get c.args.nodes.now c.args.place ≡ Some c.in-Some.node.now =
    slice_get_read c.args.nodes.now (length c.args.nodes.now) c.args.place c.in-Some.node.now refl found.3.0 found.1 in
    sym (ap (λ o. option_map_or (at w) o false) there)
