use Rattle.std.proofs.Common.{◌||◌, not, length, ap, subst, sym, ◌∙◌}
use Rattle.mw_text.specs.Members.{all_below}
use Rattle.sym_policy.specs.Held.{failures_of}
use Rattle.sym_policy.specs.Records.{prefix_of}
use Rattle.ospf_equations.specs.Levels.{of_length}
use Rattle.ospf_equations.specs.Reached.{TellReached, holds_internal, told}
use Rattle.ospf_equations.proofs.ReachedSteps.{all_told}
use Rattle.ospf_equations.proofs.reached.sym_reached.Goals as goal

pub returns-clause-value : goal.returns-clause-value
returns-clause-value c = λ w reads real stand.
    let place = c.args.place.now in
    let files = place.net.now.files in
    let failures = failures_of w place.sym.now in
    let p = prefix_of w place.dst.now place.len in
    let nodes = c.as_slice.result.now in
    c.in_ok-all.ensures.value w reads place.net.now.tracked real stand
    ∙ ap (all_below (λ router. not (holds_internal real (of_length place.len) router) || told w nodes router))
    c.requires.routers
    ∙ all_told w files failures real p nodes (subst (TellReached w files failures real p (length files))
    (sym c.as_slice.ensures)
    (c.in_ok-reached.ensures.value w (c.sym_all_supported.ensures.builds.reads w reads) real stand))
