use Rattle.std.proofs.Common.{◌≡◌, ◌∙◌, ℕ, List, length, ap, subst, sym}
use Rattle.plan_places.specs.Plans.{lens_of}
use Rattle.route_record.specs.declared.Tables.{Tables}
use Rattle.sym_rib.specs.declared.slots.SymSlot.{SymSlot}
use Rattle.sym_rib.specs.Worlds.{read_tables, tables_of, world_of}
use Rattle.sym_walk.specs.Distances.{DistancesWhereNeeded}
use Rattle.sym_walk.specs.TwinTables.{may_end}
use Rattle.term_store.specs.Terms.{at}
use Rattle.sym_walk.proofs.breaks.sym_ends_at.Goals as goal

pub returns-clause-value : goal.returns-clause-value
returns-clause-value c = λ w reads needed.
    let tables = c.world_tables-tables.result in
    let stand = c.world_tables-tables.ensures in
    let world = c.args.world.now in
    let files = c.args.net.now.files in
    let lens : tables.lens.now ≡ lens_of world.plan = stand.lens ∙ c.as_slice.ensures.value ∙ c.in_ok-lengths.ensures in
    let by_lens : List ℕ → Tables = λ ls. tables_of w ls tables.routers tables.slots.now in
    let by_routers : ℕ → Tables = λ n. tables_of w (lens_of world.plan) n tables.slots.now in
    let by_slots : List SymSlot → Tables = λ xs. tables_of w (lens_of world.plan) (length files) xs in
    let same : read_tables w tables ≡ tables_of w (lens_of world.plan) (length files) world.slots =
    ap by_lens lens ∙ ap by_routers stand.routers ∙ ap by_slots stand.slots in
    let Needed : List SymSlot → Type 0 = λ xs. DistancesWhereNeeded w files world.net xs in
    let Ends : Tables → Type 0 = λ t. at w c.in_ok-made.made.ends
    ≡ may_end files (world_of w world.net world.packet t) c.args.kind c.args.router in
    subst Ends same (c.in_ok-made.ensures.value w reads (subst Needed (sym stand.slots) needed)).ends
