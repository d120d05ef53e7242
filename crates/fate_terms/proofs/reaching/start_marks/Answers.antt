use Rattle.std.proofs.Common.{◌≡◌, ◌∙◌, ap, arith, length, rules, subst, sym}
use Rattle.std.specs.Prelude.{◌↔◌, true}
use Rattle.std.proofs.lemmas.Bool.{eq-eqb, eqb-true}
use Rattle.term_store.specs.Terms.{at}
use Rattle.fate_terms.proofs.Spreading.{ids_end_more, marks_push}
use Rattle.sym_walk.proofs.PushedTwins.{longer_by_one}
use Rattle.fate_terms.proofs.reaching.start_marks.Goals as goal

pub loop-router-preserved : goal.loop-router-preserved
loop-router-preserved c =
    let before = c.loop-router.invariant in
    let more = c.constant_node.ensures.builds in
    let put = c.in_ok-put.ensures in
    let start = c.args.start in
    record {
      builds = search rules;
      within = let own = before.within in let here = c.in_ok-mark.ensures.within in let larger = more.larger in
          ids_end_more c.loop-router.marks c.put.new.nodes c.in_ok-mark.mark _ put (omega (arith, own, larger)) here;
      long = ap length put ∙ longer_by_one c.loop-router.marks c.in_ok-mark.mark
          ∙ (let own = before.long in omega (arith, own));
      value = λ w reads.
          let is = c.in_ok-mark.ensures.value w reads in
          marks_push w c.loop-router.marks c.put.new.nodes c.in_ok-mark.mark (λ k. start ≡ k) put
          (before.value w (more.reads w reads))
          (subst (λ n. at w c.in_ok-mark.mark ≡ true ↔ start ≡ n) (sym before.long) (
            λ mark. eqb-true start c.loop-router.router (sym is ∙ mark),
            λ same. is ∙ eq-eqb start c.loop-router.router same,
          ));
    }
