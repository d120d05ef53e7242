use Rattle.std.proofs.Common.{◌∙◌, ap, arith, rules, ◌+◌, ◌++◌, drop, map}
use Rattle.term_arith.specs.Bits.{bits}
use Rattle.bgp_shapes.specs.Numbers.{compared_number, is_greater_better, kept_by}
use Rattle.sym_bgp.specs.Best.{best_at}
use Rattle.sym_bgp.specs.Keys.{keys_at}
use Rattle.sym_bgp.proofs.BestSteps.{kept_one_more, put_rows, put_within}
use Rattle.sym_bgp.proofs.numbers.kept.Goals as goal

pub loop-i-preserved : goal.loop-i-preserved
loop-i-preserved c =
    let step = c.in_ok-node.ensures in
    let out = c.loop-i.out in
    let after = c.put.new.nodes in
    let node = c.in_ok-node.node in
    let i = c.loop-i.i in
    let put_is = c.in_ok-put.ensures in
    record {
      builds = search rules;
      within = put_within out after node _ _ put_is c.loop-i.invariant.within step.builds.larger step.within;
      rows = put_rows out after node i put_is c.loop-i.invariant.rows;
      value = λ w reads.
          let best = best_at w c.args.best.now in
          let flags = bits w (drop (i + 1) c.args.flags.now) in
          let keys = map (compared_number c.args.step) (keys_at w (drop (i + 1) c.args.keys.now)) in
          ap (λ ids. bits w ids ++ kept_by (is_greater_better c.args.step) best flags keys) put_is
          ∙ kept_one_more w c.args.step best c.args.flags.now c.args.keys.now i _ c.index-keys-i.result out node
          (omega arith) (omega arith) c.index-keys-i.is c.greater_wins-greater.ensures
          (c.compared-value.ensures.value w) (step.value w reads)
          (c.loop-i.invariant.value w (step.builds.reads w reads));
    }
