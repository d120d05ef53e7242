use Rattle.std.proofs.Common.{◌∙◌, ap, rules, ◌+◌, ◌++◌, drop, map}
use Rattle.bgp_shapes.specs.Candidates.{shape_key}
use Rattle.sym_bgp.specs.Candidates.{candidate_at}
use Rattle.sym_bgp.specs.Keys.{keys_at}
use Rattle.sym_bgp.proofs.BestSteps.{put_rows}
use Rattle.sym_bgp.proofs.HeldSteps.{key_more, key_within}
use Rattle.sym_bgp.proofs.candidates.sym_keys.Goals as goal

pub loop-cand-preserved : goal.loop-cand-preserved
loop-cand-preserved c =
    let step = c.in_ok-key.ensures in
    let cands = c.args.cands.now in
    let i = c.loop-cand.cand-index in
    let keys = c.loop-cand.keys in
    let key = c.in_ok-key.key in
    let after = c.put_key.new.keys in
    let put_is = c.in_ok-put_key.ensures in
    record {
      builds = search rules;
      within = key_within keys after key _ _ put_is c.loop-cand.invariant.within step.builds.larger step.within;
      rows = put_rows keys after key i put_is c.loop-cand.invariant.rows;
      value = λ w reads.
          ap (λ ks. keys_at w ks ++ map shape_key (map (candidate_at w) (drop (i + 1) cands))) put_is
          ∙ key_more w cands keys key i c.cand-item.result c.loop-cand-test.true c.cand-item.is
          (step.value w reads)
          ∙ c.loop-cand.invariant.value w (step.builds.reads w reads);
    }
