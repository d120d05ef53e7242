use Rattle.std.proofs.Common.{arith, ap, subst, sym, ◌∙◌}
use Rattle.sym_policy.specs.Held.{bgp_end, bgp_of}
use Rattle.sym_bgp.specs.Candidates.{candidate_of, candidates_end}
use Rattle.sym_bgp.proofs.CandidatesEnd.{candidates_end_push}
use Rattle.sym_policy.specs.MapRecs.{HasTracked}
use Rattle.bgp_equations.specs.Equations.{local_with}
use Rattle.bgp_equations.proofs.CandidateSteps.{builds_join, marks_push}
use Rattle.bgp_equations.proofs.LocalSteps.{end_item, local_more}
use Rattle.bgp_equations.proofs.candidates.local_cands.Goals as goal

pub local_cand-requires : goal.local_cand-requires
local_cand-requires c =
    let item = end_item bgp_end c.args.own.now c.loop-rec.rec-index c.rec-item.result c.loop-rec-test.true
    c.rec-item.is in
    let own = c.requires.own in
    let more = c.loop-rec.invariant.builds.larger in
    omega (arith, item, own, more)

pub loop-rec-preserved : goal.loop-rec-preserved
loop-rec-preserved c =
    let before = c.loop-rec.invariant in
    let made = c.in_ok-cand.ensures in
    let put = c.in_ok-put_cand.ensures in
    let i = c.loop-rec.rec-index in
    let pushed = ap candidates_end put ∙ candidates_end_push c.loop-rec.cands c.in_ok-cand.cand in
    let here = made.within in
    let so_far = before.within in
    let more = made.builds.larger in
    record {
      builds = builds_join _ _ _ before.builds made.builds;
      within = omega (arith, pushed, here, so_far, more);
      marks = marks_push c.args.tracked.now c.loop-rec.cands c.put_cand.new.cands c.in_ok-cand.cand put before.marks
          (made.marks c.args.tracked.now (subst (HasTracked c.args.tracked.now) (sym c.rec-item.is)
          (c.requires.rows i c.rec-item.result c.loop-rec-test.true)));
      value = λ w reads.
          local_more (candidate_of w) (local_with c.args.id.0) (bgp_of w) c.loop-rec.cands c.put_cand.new.cands
          c.in_ok-cand.cand c.args.own.now i c.rec-item.result c.loop-rec-test.true c.rec-item.is put
          (made.value w reads)
          ∙ before.value w (made.builds.reads w reads);
    }
