use Rattle.std.proofs.Common.{◌∙◌, arith, sym}
use Rattle.term_store.specs.Terms.{at}
use Rattle.fate_terms.specs.Named.{world_of_walks}
use Rattle.fate_terms.proofs.Naming.{more_among}
use Rattle.fate_terms.proofs.named.sym_called.Goals as goal

pub loop-router-preserved : goal.loop-router-preserved
loop-router-preserved c =
    let before = c.loop-router.invariant in
    let a = c.sym_there.ensures.builds in
    let b = c.either.ensures.builds in
    record {
      builds = record {
        larger = let x = before.builds.larger in let y = a.larger in let z = b.larger in omega (arith, x, y, z);
        same_vars = b.same_vars ∙ a.same_vars ∙ before.builds.same_vars;
        reads = λ w reads. before.builds.reads w (a.reads w (b.reads w reads));
        keeps = λ i n stands. b.keeps i n (a.keeps i n (before.builds.keeps i n stands));
      };
      within = c.in_ok-more.ensures.within;
      value = λ w reads needed.
          let walked = c.args.walked.now in
          let both = more_among walked.net.now.files (world_of_walks w walked) walked.start c.args.name.now c.args.leaves
          c.loop-router.router (at w c.loop-router.any) (at w c.in_ok-there.there)
          (before.value w (a.reads w (b.reads w reads)) needed)
          (c.in_ok-there.ensures.value w (b.reads w reads) needed) in
          let is = c.in_ok-more.ensures.value w reads in (
            λ holds. both.0 (sym is ∙ holds),
            λ ends. is ∙ both.1 ends,
          );
    }
