use Rattle.std.proofs.Common.{◌∙◌, [], Option, ap, subst}
use Rattle.std.specs.Prelude.{slice_get}
use Rattle.std.specs.Option.{option_map_or}
use Rattle.ios_ast.specs.declared.file.File.{File}
use Rattle.net_parts.specs.Routing.{up_interfaces}
use Rattle.question_lang.specs.Hops.{all_up, hops_over}
use Rattle.sym_policy.specs.Held.{failures_of}
use Rattle.sym_forwarding.specs.Aims.{sought_by}
use Rattle.sym_forwarding.specs.Symbolic.{forwarding_of}
use Rattle.sym_forwarding.specs.Twins.{IsTwin}
use Rattle.sym_rib.specs.Worlds.{read_world}
use Rattle.sym_walk.proofs.routers.sym_next.Goals as goal

pub returns-in_ok-none-in-None-clause-value : goal.returns-in_ok-none-in-None-clause-value
returns-in_ok-none-in-None-clause-value c = λ w reads needed.
    let stop = c.args.stop.now in
    let net = stop.net.now.files in
    let failures = failures_of w stop.sym.now in
    let world = read_world w stop.sym.now stop.packet.now stop.tables.now in
    let P : Option File → Type 0 = λ file. IsTwin (sought_by w c.args.aim.now)
    (option_map_or (hops_over net world (all_up net failures) (up_interfaces net failures stop.router) stop.router)
    file []) (forwarding_of w c.in_ok-none-in-None.none) in
    subst P (c.in-None.ensures ∙ ap (λ fs. slice_get fs stop.router) c.routers.ensures.all)
    (c.in_ok-none-in-None.ensures.value w reads (sought_by w c.args.aim.now))

pub returns-in_ok-made-in-Some-clause-value : goal.returns-in_ok-made-in-Some-clause-value
returns-in_ok-made-in-Some-clause-value c = λ w reads needed.
    let stop = c.args.stop.now in
    let net = stop.net.now.files in
    let failures = failures_of w stop.sym.now in
    let world = read_world w stop.sym.now stop.packet.now stop.tables.now in
    let P : Option File → Type 0 = λ file. IsTwin (sought_by w c.args.aim.now)
    (option_map_or (hops_over net world (all_up net failures) (up_interfaces net failures stop.router) stop.router)
    file []) (forwarding_of w c.in_ok-made-in-Some.made) in
    subst P (c.in-Some.ensures ∙ ap (λ fs. slice_get fs stop.router) c.routers.ensures.all)
    (c.in_ok-made-in-Some.ensures.value w reads needed)
