use Rattle.std.proofs.Common.{◌≡◌, ◌∙◌, length, refl, rules, subst, sym}
use Rattle.std.proofs.lemmas.List.{length-map}
use Rattle.term_arith.specs.Bits.{bits}
use Rattle.term_store.specs.Terms.{at}
use Rattle.fate_terms.specs.Reaching.{AreSpread}
use Rattle.sym_forwarding.specs.Symbolic.{forwarding_of, table_of}
use Rattle.fate_terms.proofs.Spreading.{spread_reached, start_reached}
use Rattle.fate_terms.proofs.reaching.sym_reached.Goals as goal

pub loop-hop-init : goal.loop-hop-init
loop-hop-init c =
    let made = c.in_ok-marks.ensures in
    let long : length c.in_ok-marks.marks ≡ length c.args.table.now = made.long ∙ search rules in
    record {
      builds = search rules;
      within = search rules;
      long = long;
      value = λ w reads.
          start_reached (table_of w c.args.table.now) c.args.start (bits w c.in_ok-marks.marks)
          (length-map c.in_ok-marks.marks (at w) ∙ long ∙ sym (length-map c.args.table.now (forwarding_of w)))
          (made.value w reads);
    }

pub loop-hop-preserved : goal.loop-hop-preserved
loop-hop-preserved c =
    let before = c.loop-hop.invariant in
    let made = c.in_ok-later.ensures in
    record {
      builds = search rules;
      within = search rules;
      long = made.long;
      value = λ w reads.
          spread_reached (table_of w c.args.table.now) c.args.start c.loop-hop.hop _ (bits w c.loop-hop.marks)
          (bits w c.in_ok-later.later) refl
          (length-map c.in_ok-later.later (at w) ∙ made.long ∙ sym (length-map c.args.table.now (forwarding_of w)))
          (before.value w (made.builds.reads w reads))
          (subst (λ ms. AreSpread (bits w ms) (table_of w c.args.table.now) (bits w c.in_ok-later.later))
          c.as_slice.ensures (made.value w reads));
    }
