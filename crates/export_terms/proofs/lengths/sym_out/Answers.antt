use Rattle.std.proofs.Common.{◌≡◌, ◌∙◌, ◌||◌, ◌+◌, ℕ, Bool, suc, ap, arith, rules, sym}
use Rattle.sym_policy.specs.Held.{failures_of}
use Rattle.sym_policy.specs.Records.{prefix_of}
use Rattle.export_terms.specs.Routes.{routes_read}
use Rattle.export_terms.specs.Shapes.{any_below, shape_out}
use Rattle.export_terms.proofs.Anys.{any_more, any_none}
use Rattle.export_terms.proofs.lengths.sym_out.Goals as goal

pub loop-len-init : goal.loop-len-init
loop-len-init c = record {
  builds = search rules;
  within = search rules;
  value = λ w reads.
      c.in_ok-any.ensures.value w reads
      ∙ sym (any_none (λ len. shape_out c.args.net.now.tracked c.args.net.now.files c.args.ask.now
      (failures_of w c.args.sym.now) (routes_read w c.args.tables.now len) (prefix_of w c.args.dst.now len)));
}

pub loop-len-preserved : goal.loop-len-preserved
loop-len-preserved c =
    let step = c.in_ok-any-2.ensures in
    let one : suc c.loop-len.len ≡ c.loop-len.len + 1 = omega arith in record {
      builds = search rules;
      within = step.within;
      value = λ w reads.
          let before = step.builds.reads w reads in
          let out : ℕ → Bool = λ len. shape_out c.args.net.now.tracked c.args.net.now.files c.args.ask.now
          (failures_of w c.args.sym.now) (routes_read w c.args.tables.now len) (prefix_of w c.args.dst.now len) in
          step.value w reads
          ∙ (λ i. c.loop-len.invariant.value w (c.sym_out_at.ensures.builds.reads w before) i
          || c.in_ok-out.ensures.value w before i)
          ∙ sym (any_more c.loop-len.len out) ∙ ap (λ n. any_below n out) one;
    }
