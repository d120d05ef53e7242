use Rattle.std.proofs.Common.{◌∙◌, arith}
use Rattle.routings_beside.specs.declared.encoding.PairTerms.{PairTerms}
use Rattle.compared_terms.proofs.Comparing.{comparison, stand_both}
use Rattle.compared_terms.proofs.encoding.with_ties.Goals as goal

pub sym_tied-requires-clause-stands : goal.sym_tied-requires-clause-stands
sym_tied-requires-clause-stands c =
    let e : PairTerms = record {
      terms = c.args.terms;
      root = c.args.root;
      split = c.args.split;
      one = c.args.two.one.now;
      other = c.args.two.other.now;
      places = c.args.two.places.now;
    } in
    stand_both c.args.two.left.now c.args.two.right.now c.args.ask.now c.args.fates.now e c.requires.pair

pub returns : goal.returns
returns c =
    let e : PairTerms = record {
      terms = c.args.terms;
      root = c.args.root;
      split = c.args.split;
      one = c.args.two.one.now;
      other = c.args.two.other.now;
      places = c.args.two.places.now;
    } in
    comparison c.args.two.left.now c.args.two.right.now c.args.ask.now c.args.fates.now e
    c.in_ok-common.common.links c.both.new.terms c.in_ok-tied.tied c.in_ok-root.root c.requires.pair c.requires.tracked
    c.requires.one c.requires.other c.in_ok-common.ensures.links
    (record {
      larger = let a = c.sym_tied.ensures.builds.larger in let b = c.both.ensures.builds.larger in omega (arith, a, b);
      same_vars = c.both.ensures.builds.same_vars ∙ c.sym_tied.ensures.builds.same_vars;
      reads = λ w reads. c.sym_tied.ensures.builds.reads w (c.both.ensures.builds.reads w reads);
      keeps = λ i n stands. c.both.ensures.builds.keeps i n (c.sym_tied.ensures.builds.keeps i n stands);
    })
    c.in_ok-root.ensures.within c.in_ok-root.ensures.value
    (λ w reads. c.in_ok-tied.ensures.value w (c.both.ensures.builds.reads w reads))
    c.valuation_reads.ensures c.reading_has_values.ensures c.counted_law.ensures.from c.counted_law.ensures.to
    c.common_law.ensures.from c.common_law.ensures.to
