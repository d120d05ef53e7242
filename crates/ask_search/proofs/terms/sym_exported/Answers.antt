use Rattle.std.proofs.Common.{◌∙◌}
use Rattle.plan_places.specs.Plans.{lens_of}
use Rattle.route_record.specs.declared.TheConstants.{LENGTHS}
use Rattle.sym_policy.specs.Held.{failures_of}
use Rattle.sym_policy.specs.Records.{address_of, prefix_of}
use Rattle.export_terms.specs.Routes.{routes_at}
use Rattle.export_terms.specs.Shapes.{any_below, shape_out}
use Rattle.ask_search.proofs.terms.sym_exported.Goals as goal

pub returns-clause-value : goal.returns-clause-value
returns-clause-value c = λ w reads.
    let lens = c.world_tables-tables.ensures.lens ∙ c.as_slice.ensures.value ∙ c.in_ok-lens.ensures in
    c.in_ok-made.ensures.value w reads
    ∙ (λ i. any_below LENGTHS (λ len. shape_out c.args.net.now.tracked c.args.net.now.files c.args.ask.now
    (failures_of w c.args.world.now.net) (routes_at w (lens i) (c.world_tables-tables.ensures.routers i)
    (c.world_tables-tables.ensures.slots i) len) (prefix_of w c.args.world.now.packet.dst len)))

pub returns-clause-exported : goal.returns-clause-exported
returns-clause-exported c = λ w reads tables stand.
    returns-clause-value c w reads
    ∙ c.tables_law.ensures w c.args.net.now.tracked c.args.net.now.files c.args.ask.now
    (address_of w c.args.world.now.packet.dst) (failures_of w c.args.world.now.net) (lens_of c.args.world.now.plan)
    c.args.world.now.slots tables c.tracked-tracked.ensures.tracks stand
