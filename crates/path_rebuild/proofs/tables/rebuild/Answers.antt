use Rattle.std.proofs.Common.{◌≡◌, ◌∙◌, ap, map, subst, sym}
use Rattle.std.specs.List.{enumerate_from}
use Rattle.announced_shapes.specs.Environments.{rebuilt_environment}
use Rattle.path_rebuild.specs.Environments.{environment_of}
use Rattle.path_rebuild.specs.Follows.{IsRebuilt, known_of}
use Rattle.path_rebuild.specs.Tables.{rebuilt_slot, rebuilt_tables}
use Rattle.path_rebuild.proofs.Making.{made_of}
use Rattle.path_rebuild.proofs.Worlds.{same_tables}
use Rattle.path_rebuild.proofs.tables.rebuild.Goals as goal

pub returns-clause-shapes : goal.returns-clause-shapes
unfolding rebuilt_tables
returns-clause-shapes c = λ are follow.
    let net = c.args.net.now in
    let ids = c.args.ids.now in
    let announced = c.args.announced.now in
    let held = c.args.held.now in
    let rest = c.args.rest.now in
    let env = rebuilt_environment net.tracked (environment_of net.tracked net.files ids announced) in
    let same_env : env ≡ c.in_ok-env.env = sym c.in_ok-env.ensures in
    let same_slots : (rebuilt_tables net.tracked net.files env held rest c.args.d).slots ≡ c.in_ok-items.items.items =
    ap (λ e. map (rebuilt_slot net.tracked net.files e held rest c.args.d) (enumerate_from 0 rest.slots)) same_env
    ∙ sym c.in_ok-items.ensures in
    subst (IsRebuilt net.tracked net.files (known_of net.tracked net.files ids announced held rest) c.args.d)
    (λ i. record { tables = record { slots = same_slots i }; env = same_env i })
    (made_of net.tracked net.files c.args.failures.now ids announced held rest c.args.d c.tracked-tracked.ensures.tracks
    c.routers-routers.ensures.limits c.read_addresses.ensures c.requires.size are follow)

pub returns-clause-world : goal.returns-clause-world
unfolding rebuilt_tables
returns-clause-world c = λ s is.
    let net = c.args.net.now in
    let ids = c.args.ids.now in
    let announced = c.args.announced.now in
    let held = c.args.held.now in
    let rest = c.args.rest.now in
    let slots : c.in_ok-items.items.items
    ≡ (rebuilt_tables net.tracked net.files
    (rebuilt_environment net.tracked (environment_of net.tracked net.files ids announced)) held rest c.args.d).slots =
    c.in_ok-items.ensures
    ∙ ap (λ e. map (rebuilt_slot net.tracked net.files e held rest c.args.d) (enumerate_from 0 rest.slots))
    c.in_ok-env.ensures in
    record {
      tables = (λ i. record { slots = slots i })
          ∙ same_tables net.tracked net.files c.args.d ids announced held rest s is;
      environment = c.in_ok-env.ensures ∙ ap (rebuilt_environment net.tracked) (sym is.environment);
    }
