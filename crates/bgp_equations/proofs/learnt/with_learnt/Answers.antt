use Rattle.std.proofs.Common.{arith, ap, filter, drop, length, ◌∙◌, ◌+◌, ◌++◌, ◌<◌, ◌==◌, slice_get}
use Rattle.std.specs.List.{enumerate_from, filter_map}
use Rattle.std.specs.Option.{option_and_then, option_to_list}
use Rattle.std.proofs.lemmas.List.{append_assoc}
use Rattle.net_parts.specs.declared.sessions.SessionEnd.{SessionEnd}
use Rattle.net_parts.specs.Sessions.{ends_of}
use Rattle.sym_bgp.specs.Candidates.{candidate_of}
use Rattle.bgp_equations.specs.Equations.{learnt_by, learnt_read}
use Rattle.bgp_equations.proofs.CandidateSteps.{builds_join, numbered_at}
use Rattle.bgp_equations.proofs.learnt.with_learnt.Goals as goal

pub loop-at-preserved : goal.loop-at-preserved
loop-at-preserved c =
    let routing = c.args.routing.now in
    let step = c.in_ok-put_at.ensures in
    let before = c.loop-at.invariant in
    let test = c.loop-at-test.true in
    let count = c.count_ends-many.ensures in
    let within : c.loop-at.at < length (ends_of routing.net.now.files) = omega (arith, test, count) in
    record {
      builds = builds_join _ _ _ before.builds step.builds;
      within = step.within;
      marks = step.marks;
      value = λ w reads has.
          let files = routing.net.now.files in
          let learnt = learnt_read w routing.net.now.tracked files routing.sym.now routing.env.now routing.tables.now
          routing.dst.now routing.len in
          let rest = filter_map learnt (filter (λ e. e.1.router == c.args.router)
          (enumerate_from (c.loop-at.at + 1) (drop (c.loop-at.at + 1) (ends_of files)))) in
          ap (λ xs. xs ++ rest) (step.value w reads has)
          ∙ append_assoc (filter_map (candidate_of w) c.loop-at.cands)
          (option_to_list (option_and_then (learnt_by learnt c.args.router c.loop-at.at)
          (slice_get (ends_of files) c.loop-at.at))) rest
          ∙ ap (λ xs. filter_map (candidate_of w) c.loop-at.cands ++ xs)
          (numbered_at (λ (end : SessionEnd). end.router == c.args.router) learnt (ends_of files) c.loop-at.at within)
          ∙ before.value w (step.builds.reads w reads) has;
    }
