use Rattle.std.proofs.Common.{ap, is_some, not, sym, ◌∙◌}
use Rattle.std.specs.Option.{option_map_or}
use Rattle.mw_text.proofs.Results.{ok_then}
use Rattle.ios_ast.specs.declared.bgp.Bgp.{Bgp}
use Rattle.bgp_shapes.specs.Candidates.{shape_candidates}
use Rattle.bgp_shapes.specs.Held.{held_shape}
use Rattle.sym_policy.specs.Held.{bgp_of, failures_of}
use Rattle.sym_policy.specs.Records.{prefix_of}
use Rattle.bgp_equations.specs.Environments.{environment_read}
use Rattle.bgp_equations.specs.Equations.{sending_read}
use Rattle.bgp_equations.proofs.holding.file_holds.Goals as goal

pub returns-in-Some-clause-value : goal.returns-in-Some-clause-value
returns-in-Some-clause-value c =
    let routing = c.args.routing.now in
    ok_then c.process_holds.result c.process_holds.ensures.value (λ r is w reads has.
    is w reads c.args.file.now has c.requires.found c.in-Some.is
    ∙ ap (λ o. option_map_or (λ (process : Bgp). held_shape process.always_compare process.compare_routerid
    (shape_candidates routing.net.now.tracked routing.net.now.files (failures_of w routing.sym.now)
    (environment_read w routing.net.now.files routing.tables.now.lens.now routing.env.now)
    (sending_read w routing.net.now.files routing.tables.now routing.len) c.args.router c.args.file.now process
    (prefix_of w routing.dst.now routing.len)) (bgp_of w c.args.slot.now.bgp)) o
    (not (is_some (bgp_of w c.args.slot.now.bgp)))) (sym c.in-Some.is))
