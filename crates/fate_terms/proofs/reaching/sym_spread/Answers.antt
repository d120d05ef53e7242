use Rattle.std.proofs.Common.{◌≡◌, ◌∙◌, ap, arith, length, rules, subst, sym}
use Rattle.std.specs.Prelude.{◌↔◌, true}
use Rattle.term_arith.specs.Bits.{bits}
use Rattle.term_store.specs.Terms.{at}
use Rattle.fate_terms.specs.Reaching.{ComesOn}
use Rattle.sym_forwarding.specs.Symbolic.{table_of}
use Rattle.fate_terms.proofs.Spreading.{ids_end_more, marks_push}
use Rattle.sym_walk.proofs.PushedTwins.{longer_by_one}
use Rattle.fate_terms.proofs.reaching.sym_spread.Goals as goal

pub loop-router-preserved : goal.loop-router-preserved
loop-router-preserved c =
    let before = c.loop-router.invariant in
    let more = c.sym_on.ensures.builds in
    let put = c.in_ok-put.ensures in
    record {
      builds = search rules;
      within = let own = before.within in let here = c.in_ok-mark.ensures.within in let larger = more.larger in
          ids_end_more c.loop-router.later c.put.new.nodes c.in_ok-mark.mark _ put (omega (arith, own, larger)) here;
      long = ap length put ∙ longer_by_one c.loop-router.later c.in_ok-mark.mark
          ∙ (let own = before.long in omega (arith, own));
      value = λ w reads.
          marks_push w c.loop-router.later c.put.new.nodes c.in_ok-mark.mark
          (ComesOn (bits w c.args.marks.now) (table_of w c.args.table.now)) put
          (before.value w (more.reads w reads))
          (subst (λ n. at w c.in_ok-mark.mark ≡ true
          ↔ ComesOn (bits w c.args.marks.now) (table_of w c.args.table.now) n) (sym before.long)
          (c.in_ok-mark.ensures.value w reads));
    }
