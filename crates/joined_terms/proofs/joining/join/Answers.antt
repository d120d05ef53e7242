use Rattle.std.proofs.Common.{◌≡◌, ◌∙◌, ◌+◌, ◌≤◌, List, ap, arith, length, rules, subst, sym}
use Rattle.std.proofs.lemmas.List.{length-append}
use Rattle.std.proofs.lemmas.Option.{slice_get_within}
use Rattle.term_store.specs.declared.NodeId.{NodeId}
use Rattle.term_arith.specs.Bits.{ids_end}
use Rattle.term_store.specs.Reading.{Reads}
use Rattle.term_store.specs.Terms.{gate}
use Rattle.joined_terms.specs.Joining.{behind}
use Rattle.term_arith.proofs.NumberLemmas.{ids_end_push}
use Rattle.joined_terms.proofs.Moving.{AreRead, read_more, read_none}
use Rattle.joined_terms.proofs.joining.join.Goals as goal

pub loop-i-init : goal.loop-i-init
loop-i-init c =
    let none = c.new-places.ensures.items in
    let end = ap ids_end none in record {
      builds = search rules;
      within = omega (arith, end);
      count = ap length none;
      value = λ w reads. read_none c.args.from.now c.new-places.result.items w;
    }

pub loop-i-preserved : goal.loop-i-preserved
loop-i-preserved c =
    let step = c.in_ok-place.ensures in
    let places = c.loop-i.places.items in
    let place = c.in_ok-place.place in
    let pushed = c.in_ok-push.ensures.items in
    let so_far = c.loop-i.invariant.within in
    let larger = step.builds.larger in
    let here = step.within in
    let end = ap ids_end pushed ∙ ids_end_push places place in
    let long = c.loop-i.invariant.count in record {
      builds = search rules;
      within = omega (arith, end, so_far, larger, here);
      count = ap length pushed ∙ length-append places _ ∙ ap (λ n. n + 1) long;
      value = λ w reads.
          subst (λ (xs : List NodeId). AreRead c.args.from.now xs (c.loop-i.i + 1) w) (sym pushed)
          (read_more c.args.from.now places place c.loop-i.i w c.stands_in_order.ensures.sound long
          (c.loop-i.invariant.value w (step.builds.reads w reads))
          (λ node there. step.value w reads node there
          ∙ ap (λ (xs : List NodeId). gate (behind xs w) node) c.as_slice.ensures.value));
    }

pub returns-clause-value : goal.returns-clause-value
unfolding Reads
returns-clause-value c = λ w reads i node there.
    let within = slice_get_within c.args.from.now.nodes i node there in
    let test = c.loop-i-test.false in
    let all = c.len-i-end.ensures.size in
    c.loop-i.invariant.value w reads i node (omega (arith, within, test, all)) there
