use Rattle.std.proofs.Common.{◌++◌, ◌∙◌, ap, arith, false, refl, subst, sym}
use Rattle.std.specs.Prelude.{get_or}
use Rattle.term_store.specs.Terms.{Agrees, reading_of}
use Rattle.term_arith.specs.Bits.{variables}
use Rattle.term_arith.proofs.NumberLemmas.{bits_at}
use Rattle.terms_beside.specs.Beside.{exactly, second_part}
use Rattle.terms_beside.proofs.Parts.{exactly_agrees, first_agrees, first_is, length-exactly, second_agrees, second_is}
use Rattle.terms_beside.proofs.put_beside.Goals as goal

pub returns-clause-values : goal.returns-clause-values
returns-clause-values c = λ w reads valuation agrees.
    let one = c.args.into.now in
    let other = c.args.from.now in
    let places = c.in_ok-places.places in
    let width = c.in_ok-places.ensures.vars in
    let long = c.in_ok-places.ensures.length in
    let row = variables w one.vars other.vars in
    let second = reading_of other.nodes row in record {
      first = λ i less.
          c.reading_has_values.ensures w _ (c.graft.ensures.grows.reads w reads)
          (first_agrees w one valuation _ (omega (arith, width)) agrees) i less;
      second = λ i less.
          sym (bits_at w places i (record { 0 = 0 }) (omega (arith, less, long)))
          ∙ ap (λ bs. get_or bs i false) (c.in_ok-places.ensures.values w reads)
          ∙ c.reading_has_values-2.ensures second (second_part one other valuation) (c.valuation_reads.ensures row)
          (second_agrees w second one other valuation _ width agrees refl) i less;
    }

pub returns-clause-given : goal.returns-clause-given
returns-clause-given c = λ w reads xs ys agrees.
    let one = c.args.into.now in
    let other = c.args.from.now in
    let places = c.in_ok-places.places in
    let width = c.in_ok-places.ensures.vars in
    let long = c.in_ok-places.ensures.length in
    let row = variables w one.vars other.vars in
    let second = reading_of other.nodes row in
    let before = exactly one.vars xs in
    let after = exactly other.vars ys in
    let part = first_is one before after (length-exactly one.vars xs) in
    let part_too =
    second_is one other before after (length-exactly one.vars xs) (length-exactly other.vars ys) in record {
      first = λ i less.
          c.reading_has_values.ensures w xs (c.graft.ensures.grows.reads w reads)
          (exactly_agrees w one.vars xs
          (subst (λ bs. Agrees w bs one.vars) part
          (first_agrees w one (before ++ after) _ (omega (arith, width)) agrees))) i less;
      second = λ i less.
          sym (bits_at w places i (record { 0 = 0 }) (omega (arith, less, long)))
          ∙ ap (λ bs. get_or bs i false) (c.in_ok-places.ensures.values w reads)
          ∙ c.reading_has_values-2.ensures second ys (c.valuation_reads.ensures row)
          (exactly_agrees second other.vars ys
          (subst (λ bs. Agrees second bs other.vars) part_too
          (second_agrees w second one other (before ++ after) _ width agrees refl))) i less;
    }
