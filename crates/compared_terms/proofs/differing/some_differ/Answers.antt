use Rattle.std.proofs.Common.{◌∙◌, arith, sym}
use Rattle.term_store.specs.Terms.{at}
use Rattle.compared_terms.proofs.Apart.{more_below}
use Rattle.compared_terms.proofs.differing.some_differ.Goals as goal

pub loop-at-preserved : goal.loop-at-preserved
loop-at-preserved c =
    let before = c.loop-at.invariant in
    let a = c.sym_differs.ensures.builds in
    let b = c.either.ensures.builds in
    record {
      builds = record {
        larger = let x = before.builds.larger in let y = a.larger in let z = b.larger in omega (arith, x, y, z);
        same_vars = b.same_vars ∙ a.same_vars ∙ before.builds.same_vars;
        reads = λ w reads. before.builds.reads w (a.reads w (b.reads w reads));
        keeps = λ i n stands. b.keeps i n (a.keeps i n (before.builds.keeps i n stands));
      };
      within = c.in_ok-more.ensures.within;
      value = λ w reads.
          let both = more_below w c.args.places.now c.args.a.now c.args.b.now c.loop-at.at (at w c.loop-at.any)
          (at w c.in_ok-here.here) (before.value w (a.reads w (b.reads w reads)))
          (c.in_ok-here.ensures.value w (b.reads w reads)) in
          let is = c.in_ok-more.ensures.value w reads in (
            λ holds. both.0 (sym is ∙ holds),
            λ differs. is ∙ both.1 differs,
          );
    }
