use Rattle.std.proofs.Common.{◌≡◌, ◌+◌, ◌-◌, ◌*◌, ◌^◌, ◌<◌, sym, subst, ap, arith, ◌∙◌}
use Rattle.term_arith.specs.Bits.{bit}
use Rattle.term_store.specs.Terms.{truth}
use Rattle.failed_links.specs.Rows.{number_from}
use Rattle.failed_links.proofs.Reading.{number_from-below}
use Rattle.failed_links.proofs.ValueSteps.{number_put}
use Rattle.failed_links.proofs.values.number_at.Goals as goal

pub loop-i-preserved : goal.loop-i-preserved
loop-i-preserved c =
    let v = truth c.args.values.now in
    let place = c.loop-i.i - 1 in
    let value : 2 * c.loop-i.number + c.bit_of.result
    ≡ number_from v (c.args.from + place) (c.args.width - place) =
    number_put v c.args.from c.args.width c.loop-i.i c.loop-i.number c.bit_of.result
    (omega (arith, c.loop-i-test.true)) (omega arith) c.loop-i.invariant.value
    (c.bit_of.ensures ∙ ap bit (c.value_at-value.ensures ∙ ap (λ n. v (c.args.from + n)) c.from.ensures)) in
    record {
      value = value;
      small = subst (λ n. n < 2 ^ (c.args.width - place)) (sym value)
          (number_from-below v (c.args.from + place) (c.args.width - place));
    }
