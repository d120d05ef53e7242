use Rattle.std.proofs.Common.{◌≡◌, ◌∙◌, Some, ap, arith, length, refl, subst, sym}
use Rattle.std.specs.Prelude.{slice_get}
use Rattle.std.proofs.lemmas.Option.{slice_get_read}
use Rattle.fate_terms.specs.Named.{world_of_walks}
use Rattle.fate_terms.proofs.Naming.{fates_more}
use Rattle.fate_terms.proofs.Spreading.{ids_end_more}
use Rattle.sym_walk.proofs.PushedTwins.{longer_by_one}
use Rattle.fate_terms.proofs.named.sym_each.Goals as goal

pub loop-fate-preserved : goal.loop-fate-preserved
loop-fate-preserved c =
    let before = c.loop-fate.invariant in
    let more = c.sym_fate.ensures.builds in
    let put = c.in_ok-put.ensures in
    let walked = c.args.walked.now in
    record {
      builds = record {
        larger = let x = before.builds.larger in let y = more.larger in omega (arith, x, y);
        same_vars = more.same_vars ∙ before.builds.same_vars;
        reads = λ w reads. before.builds.reads w (more.reads w reads);
        keeps = λ i n stands. more.keeps i n (before.builds.keeps i n stands);
      };
      within = let own = before.within in let here = c.in_ok-id.ensures.within in let larger = more.larger in
          ids_end_more c.loop-fate.ids c.put.new.nodes c.in_ok-id.id _ put (omega (arith, own, larger)) here;
      long = ap length put ∙ longer_by_one c.loop-fate.ids c.in_ok-id.id ∙ (let own = before.long in omega (arith, own));
      value = λ w reads needed.
          fates_more w walked.net.now.files (world_of_walks w walked) walked.start c.args.fates.now c.loop-fate.ids
          c.put.new.nodes c.fate-item.result c.in_ok-id.id
          (subst (λ n. slice_get c.args.fates.now n ≡ Some c.fate-item.result) (sym before.long)
          (slice_get_read c.args.fates.now (length c.args.fates.now) c.loop-fate.fate-index c.fate-item.result refl
          c.loop-fate-test.true c.fate-item.is)) put
          (before.value w (more.reads w reads) needed) (c.in_ok-id.ensures.value w reads needed);
    }
