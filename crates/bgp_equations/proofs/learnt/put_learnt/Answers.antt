use Rattle.std.proofs.Common.{arith, ap, sym, ◌==◌, ◌∙◌, ◌++◌}
use Rattle.std.specs.List.{filter_map}
use Rattle.std.specs.Option.{option_to_list}
use Rattle.std.proofs.lemmas.Result.{on_ok_weaker}
use Rattle.silent_routers.specs.Silent.{is_behind_silent}
use Rattle.sym_bgp.specs.Candidates.{candidate_of, candidates_end}
use Rattle.sym_bgp.proofs.CandidatesEnd.{candidates_end_push}
use Rattle.bgp_equations.specs.Equations.{learnt_read}
use Rattle.bgp_equations.proofs.CandidateSteps.{if_on, marks_push, nothing_put, one_put}
use Rattle.bgp_equations.proofs.HeardOnly.{heard_parts, learnt_heard, unheard}
use Rattle.bgp_equations.proofs.learnt.put_learnt.Goals as goal

pub returns-clause-within : goal.returns-clause-within
returns-clause-within c =
    on_ok_weaker c.put_cand.result (λ is.
    let pushed = ap candidates_end is ∙ candidates_end_push c.args.cands.now c.in_ok-cand.cand in
    let here = c.in_ok-cand.ensures.within in
    let before = c.requires.before in
    let more = c.in_ok-cand.ensures.builds.larger in
    omega (arith, pushed, here, before, more)) c.put_cand.ensures

pub returns-clause-marks : goal.returns-clause-marks
returns-clause-marks c =
    let routing = c.args.routing.now in
    on_ok_weaker c.put_cand.result (λ is.
    marks_push routing.net.now.tracked c.args.cands.now c.put_cand.new.cands c.in_ok-cand.cand is c.requires.marks
    c.in_ok-cand.ensures.marks) c.put_cand.ensures

pub returns-then-not-hears-clause-value : goal.returns-then-not-hears-clause-value
returns-then-not-hears-clause-value c = λ w reads has.
    let routing = c.args.routing.now in
    let before = filter_map (candidate_of w) c.args.cands.now in
    nothing_put before
    ∙ ap (λ o. before ++ option_to_list o) (sym (unheard w routing.net.now.tracked routing.net.now.files routing.sym.now
    routing.env.now routing.tables.now routing.dst.now routing.len c.args.at c.args.end.now c.args.router
    (sym c.hears.ensures ∙ c.if-not-hears.true)))

pub returns-clause-value : goal.returns-clause-value
returns-clause-value c =
    let routing = c.args.routing.now in
    let heard = heard_parts (c.args.end.now.router == c.args.router)
    (is_behind_silent routing.net.now.files c.args.end.now) (sym c.hears.ensures ∙ c.if-not-hears.false) in
    if_on c.put_cand.result c.put_cand.ensures (λ u is w reads has.
    one_put (candidate_of w) c.args.cands.now c.put_cand.new.cands c.in_ok-cand.cand
    (c.args.end.now.router == c.args.router)
    (learnt_read w routing.net.now.tracked routing.net.now.files routing.sym.now routing.env.now routing.tables.now
    routing.dst.now routing.len (c.args.at, c.args.end.now)) is heard.0 (c.in_ok-cand.ensures.value w reads has
    ∙ sym (learnt_heard w routing.net.now.tracked routing.net.now.files routing.sym.now routing.env.now
    routing.tables.now routing.dst.now routing.len c.args.at c.args.end.now heard.1)))
