use Rattle.std.proofs.Common.{ap, ◌∙◌}
use Rattle.std.specs.List.{filter_map}
use Rattle.mw_text.proofs.Results.{ok_then}
use Rattle.bgp_shapes.specs.Held.{held_shape}
use Rattle.sym_policy.specs.Held.{bgp_of}
use Rattle.sym_bgp.specs.Candidates.{candidate_of}
use Rattle.bgp_equations.proofs.holding.process_holds.Goals as goal

pub returns-clause-value : goal.returns-clause-value
returns-clause-value c =
    ok_then c.sym_survives.result c.sym_survives.ensures.value (λ r is w reads file has found runs.
    is w reads
    ∙ ap (λ xs. held_shape c.args.process.now.always_compare c.args.process.now.compare_routerid
    (filter_map (candidate_of w) xs) (bgp_of w c.args.slot.now.bgp)) c.as_slice.ensures
    ∙ ap (λ xs. held_shape c.args.process.now.always_compare c.args.process.now.compare_routerid xs
    (bgp_of w c.args.slot.now.bgp))
    (c.in_ok-cands.ensures.value w (c.sym_survives.ensures.builds.reads w reads) file c.args.process.now has found
    runs))
