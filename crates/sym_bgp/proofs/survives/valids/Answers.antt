use Rattle.std.proofs.Common.{◌∙◌, ap, subst, sym, ◌+◌, ◌≤◌, ◌++◌, drop, map}
use Rattle.term_arith.specs.Bits.{ids_end}
use Rattle.sym_bgp.specs.declared.parts.SymCand.{SymCand}
use Rattle.sym_bgp.specs.Candidates.{candidates_end}
use Rattle.sym_bgp.proofs.BestSteps.{put_rows}
use Rattle.sym_bgp.proofs.HeldSteps.{valid_more, valid_within}
use Rattle.sym_bgp.proofs.survives.valids.Goals as goal

pub loop-cand-preserved : goal.loop-cand-preserved
loop-cand-preserved c =
    let cands = c.args.cands.now in
    let i = c.loop-cand.cand-index in
    let nodes = c.loop-cand.nodes in
    let cand = c.cand-item.result in
    let here = c.cand-item.is in
    let there = c.loop-cand-test.true in
    record {
      within =
          subst (λ ids. ids_end ids ≤ candidates_end cands) (sym c.in_ok-put.ensures)
          (valid_within cands nodes i cand there here c.loop-cand.invariant.within);
      rows = put_rows nodes c.put.new.nodes cand.rec.valid i c.in_ok-put.ensures c.loop-cand.invariant.rows;
      value =
          ap (λ ids. ids ++ map (λ (x : SymCand). x.rec.valid) (drop (i + 1) cands)) c.in_ok-put.ensures
          ∙ valid_more cands nodes i cand there here
          ∙ c.loop-cand.invariant.value;
    }
