use Rattle.std.proofs.Common.{◌≡◌, ◌∙◌, ◌&&◌, List, length, subst, sym, true}
use Rattle.std.specs.Prelude.{◌↔◌}
use Rattle.std.proofs.lemmas.Bool.{and_from, and_parts}
use Rattle.std.proofs.lemmas.Result.{IfOk-weaker}
use Rattle.joined_terms.specs.Joining.{behind}
use Rattle.paired_nets.specs.declared.links.LinkPair.{LinkPair}
use Rattle.sym_policy.specs.Held.{failures_of}
use Rattle.term_store.specs.declared.NodeId.{NodeId}
use Rattle.term_store.specs.Reading.{Reads}
use Rattle.term_store.specs.Terms.{Reading, at}
use Rattle.compared_terms.specs.Ties.{AreTied, DifferBelow, FailSo}
use Rattle.compared_terms.proofs.tied.sym_tied.Goals as goal

pub returns-clause-value : goal.returns-clause-value
returns-clause-value c =
    let left = c.args.two.left.now in
    let right = c.args.two.right.now in
    let one = c.args.two.one.now in
    let other = c.args.two.other.now in
    let places = c.args.two.places.now in
    let links = c.args.common.now.links in
    let most = c.args.most in
    let around = c.in_ok-around.around in
    let failing = c.in_ok-failing.failing in
    let fates = c.in_ok-fates.fates in
    let inside = c.in_ok-inside.inside in
    IfOk-weaker c.both-2.result
    (λ (r : NodeId). (w : Reading) → Reads w c.both-2.new.terms → at w r ≡ (at w around && at w inside))
    (λ (r : NodeId). (w : Reading) → Reads w c.both-2.new.terms → at w r ≡ true
    ↔ AreTied left right links most places one other w)
    (λ r is w reads.
    let r3 = c.both-2.ensures.builds.reads w reads in
    let r2 = c.both.ensures.builds.reads w r3 in
    let r1 = c.some_differ.ensures.builds.reads w r2 in
    let r0 = c.sym_failing.ensures.builds.reads w r1 in
    let told = c.in_ok-around.ensures.value w r0 in
    let failed = subst (λ (ls : List LinkPair). at w failing ≡ true
    ↔ FailSo ls most (failures_of w one.world.net) (failures_of (behind places w) other.world.net))
    c.as_slice.ensures (c.in_ok-failing.ensures.value w r1) in
    let differ = subst (λ (ids : List NodeId). at w fates ≡ true
    ↔ DifferBelow w places one.fates ids (length one.fates)) c.as_slice-3.ensures
    (subst (λ (ids : List NodeId). at w fates ≡ true
    ↔ DifferBelow w places ids c.as_slice-3.result.now (length ids)) c.as_slice-2.ensures
    (c.in_ok-fates.ensures.value w r2)) in
    let within = c.in_ok-inside.ensures.value w r3 in (
      λ holds.
          let parts = and_parts (at w around) (at w inside) (sym (is w reads) ∙ holds) in
          let rest = and_parts (at w failing) (at w fates) (sym within ∙ parts.1) in record {
            around = told.0 parts.0;
            failing = failed.0 rest.0;
            fates = differ.0 rest.1;
          },
      λ tied. is w reads ∙ and_from (at w around) (at w inside) (told.1 tied.around)
          (within ∙ and_from (at w failing) (at w fates) (failed.1 tied.failing) (differ.1 tied.fates)),
    ))
    c.both-2.ensures.value
