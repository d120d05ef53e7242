use Rattle.std.proofs.Common.{◌∙◌, ap, arith, rules, ◌+◌, ◌++◌, drop}
use Rattle.term_arith.specs.Bits.{bits}
use Rattle.sym_bgp.specs.Beside.{level_of}
use Rattle.sym_bgp.specs.Keys.{key_at, keys_at}
use Rattle.sym_bgp.proofs.BesideSteps.{level_one_more}
use Rattle.sym_bgp.proofs.BestSteps.{put_rows, put_within}
use Rattle.sym_bgp.proofs.beside.level.Goals as goal

pub loop-i-preserved : goal.loop-i-preserved
loop-i-preserved c =
    let step = c.in_ok-node.ensures in
    let out = c.loop-i.out in
    let after = c.put.new.nodes in
    let node = c.in_ok-node.node in
    let i = c.loop-i.i in
    let put_is = c.in_ok-put.ensures in
    record {
      builds = search rules;
      within = put_within out after node _ _ put_is c.loop-i.invariant.within step.builds.larger step.within;
      rows = put_rows out after node i put_is c.loop-i.invariant.rows;
      value = λ w reads.
          let held = key_at w c.args.held.now in
          let flags = bits w (drop (i + 1) c.args.flags.now) in
          let keys = keys_at w (drop (i + 1) c.args.keys.now) in
          ap (λ ids. bits w ids ++ level_of c.args.step held flags keys) put_is
          ∙ level_one_more w c.args.step held c.args.flags.now c.args.keys.now i _ c.index-keys-i.result out node
          (omega arith) (omega arith) c.index-keys-i.is (step.value w reads)
          (c.loop-i.invariant.value w (step.builds.reads w reads));
    }
