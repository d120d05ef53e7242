use Rattle.std.proofs.Common.{ap, map, ◌∙◌}
use Rattle.mw_text.proofs.Results.{ok_then}
use Rattle.net_parts.specs.Sessions.{is_outside}
use Rattle.bgp_shapes.specs.Candidates.{shape_arriving}
use Rattle.sym_policy.specs.Held.{bgp_of, failures_of}
use Rattle.sym_policy.specs.Records.{address_of}
use Rattle.bgp_equations.proofs.LearntOver.{inner_learnt, inner_there, outer_learnt}
use Rattle.bgp_equations.proofs.beside.beside.Goals as goal

pub inner_beside-requires-clause-distances : goal.inner_beside-requires-clause-distances
inner_beside-requires-clause-distances c =
    c.requires.distances
    (inner_there c.args.net.now.files c.args.at c.in-Inside.field-0 c.args.end.now c.requires.there c.in-Inside.is)

pub returns-in-Outside-clause-value : goal.returns-in-Outside-clause-value
returns-in-Outside-clause-value c =
    ok_then c.outer_beside.result c.outer_beside.ensures.value (λ r is w reads environment slots p has same.
    is w reads
    ∙ outer_learnt c.args.net.now.tracked c.args.net.now.files (failures_of w c.args.sym.now)
    (map (address_of w) c.args.env.now.ids) environment slots p c.args.at c.args.end.now (bgp_of w c.args.rec.now)
    c.requires.there (ap is_outside c.in-Outside.is) same)

pub returns-in-Inside-clause-value : goal.returns-in-Inside-clause-value
returns-in-Inside-clause-value c =
    ok_then c.inner_beside.result c.inner_beside.ensures.value (λ r is w reads environment slots p has same.
    is w reads
    (has (inner_there c.args.net.now.files c.args.at c.in-Inside.field-0 c.args.end.now c.requires.there
    c.in-Inside.is))
    ∙ inner_learnt c.args.net.now.tracked c.args.net.now.files (failures_of w c.args.sym.now)
    (map (address_of w) c.args.env.now.ids) p c.args.at c.args.end.now
    (shape_arriving c.args.net.now.tracked c.args.net.now.files environment slots p c.args.at c.args.end.now)
    (bgp_of w c.args.rec.now) same)
