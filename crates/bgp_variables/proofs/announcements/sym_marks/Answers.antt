use Rattle.std.proofs.Common.{◌≡◌, ◌<◌, ◌&&◌, ◌||◌, not, arith, length, subst, ◌∙◌, get_or}
use Rattle.term_store.specs.Terms.{at}
use Rattle.sym_policy.specs.Held.{bgp_at}
use Rattle.net_parts.specs.World.{is_as_number}
use Rattle.bgp_variables.specs.Announced.{is_one_of}
use Rattle.bgp_variables.proofs.AnnouncedSteps.{few_more, fit_more, inner_more, mark_chain}
use Rattle.bgp_variables.proofs.announcements.sym_marks.Goals as goal

pub loop-i-preserved : goal.loop-i-preserved
loop-i-preserved c =
    let i = c.loop-i.i in
    let tracked = c.args.tracked.now in
    let marks = c.args.s.now.numbers.nodes.items in
    let same : c.as_slice-marks.result.now ≡ marks = c.as_slice-marks.ensures.value in
    let below : i < length tracked = c.loop-i-test.true in
    let rows = c.requires.rows in
    let within : i < length marks = omega (arith, below, rows) in
    let small = c.requires.few in
    let before = c.loop-i.invariant in
    record {
      builds = mark_chain before.builds c.in_ok-test.ensures.builds c.in_ok-fit-2.ensures.builds
          c.in_ok-count-2.ensures.builds;
      fit_within =
          let one = c.in_ok-fit-2.ensures.within in
          let more = c.in_ok-count-2.ensures.builds.larger in omega (arith, one, more);
      count_within = c.in_ok-count-2.ensures.within;
      width = c.in_ok-count-2.ensures.width;
      few = λ w reads.
          let r1 = c.in_ok-count-2.ensures.builds.reads w reads in
          let r0 = c.in_ok-test.ensures.builds.reads w (c.in_ok-fit-2.ensures.builds.reads w r1) in
          let few = before.few w r0 in
          few_more _ _ i _ (c.in_ok-count-2.ensures.value w reads (omega (arith, few, small, below))) few;
      fit = λ w reads.
          let r1 = c.in_ok-count-2.ensures.builds.reads w reads in
          let r2 = c.in_ok-fit-2.ensures.builds.reads w r1 in
          let r0 = c.in_ok-test.ensures.builds.reads w r2 in
          let path = (bgp_at w c.args.s.now).path in
          fit_more w (is_one_of path.first path.last) tracked marks i _ _ _ below within
          (c.in_ok-fit-2.ensures.value w r1)
          (subst (λ ms. at w c.in_ok-test.test.fit
          ≡ ((not (is_one_of path.first path.last (get_or tracked i 0)) || at w (get_or ms i (record { 0 = 0 })))
          && (is_as_number (get_or tracked i 0) || not (at w (get_or ms i (record { 0 = 0 })))))) same
          (c.in_ok-test.ensures.fit w r2))
          ∙ before.fit w r0;
      count = λ w reads.
          let r1 = c.in_ok-count-2.ensures.builds.reads w reads in
          let r2 = c.in_ok-fit-2.ensures.builds.reads w r1 in
          let r0 = c.in_ok-test.ensures.builds.reads w r2 in
          let few = before.few w r0 in
          let path = (bgp_at w c.args.s.now).path in
          inner_more w (is_one_of path.first path.last) tracked marks i _ _ _ below within
          (c.in_ok-count-2.ensures.value w reads (omega (arith, few, small, below)))
          (subst (λ ms. at w c.in_ok-test.test.inner
          ≡ (at w (get_or ms i (record { 0 = 0 })) && not (is_one_of path.first path.last (get_or tracked i 0)))) same
          (c.in_ok-test.ensures.inner w r2))
          ∙ before.count w r0;
    }
