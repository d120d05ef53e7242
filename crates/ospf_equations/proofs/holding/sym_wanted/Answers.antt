use Rattle.std.proofs.Common.{◌≡◌, Some, false, sym, ap, ◌∙◌}
use Rattle.std.specs.Prelude.{option_copied, slice_get}
use Rattle.std.specs.Option.{option_map_or}
use Rattle.sym_policy.specs.Held.{failures_of}
use Rattle.sym_policy.specs.Records.{address_of}
use Rattle.world_variables.specs.Slots.{is_wanted}
use Rattle.world_variables.specs.Symbols.{open_of}
use Rattle.ospf_equations.proofs.Wanted.{closed_wanted}
use Rattle.ospf_equations.proofs.holding.sym_wanted.Goals as goal

pub returns-in_ok-made-in-None-ospf-clause-value : goal.returns-in_ok-made-in-None-ospf-clause-value
returns-in_ok-made-in-None-ospf-clause-value c = λ w reads real slot stand stands there same.
    let place = c.args.place.now in
    let files = place.net.now.files in
    let failures = failures_of w place.sym.now in
    let d = address_of w place.dst.now in
    let part = open_of w c.args.part.now in
    let file = c.in-Some.file.now in
    let found : slice_get files place.router ≡ Some file = ap (λ xs. slice_get xs place.router) (sym c.routers.ensures.all)
    ∙ sym c.file_of.ensures ∙ ap option_copied c.in-Some.is in
    c.in_ok-made-in-None-ospf.ensures.value w reads slot file stands found
    ∙ closed_wanted files failures d real place.router place.len part slot file c.in-None-ospf.is
    ∙ ap (λ o. option_map_or (is_wanted files failures d real place.router place.len part slot) o false) (sym found)

pub returns-in_ok-made-in-Some-ospf-clause-value : goal.returns-in_ok-made-in-Some-ospf-clause-value
returns-in_ok-made-in-Some-ospf-clause-value c = λ w reads real slot stand stands there same.
    let place = c.args.place.now in
    let files = place.net.now.files in
    let failures = failures_of w place.sym.now in
    let d = address_of w place.dst.now in
    let part = open_of w c.args.part.now in
    let file = c.in-Some.file.now in
    let found : slice_get files place.router ≡ Some file = ap (λ xs. slice_get xs place.router) (sym c.routers.ensures.all)
    ∙ sym c.file_of.ensures ∙ ap option_copied c.in-Some.is in
    c.in_ok-made-in-Some-ospf.ensures.value w reads real slot file c.in-Some-ospf.field-0 stand stands there same found
    c.in-Some-ospf.is
    ∙ ap (λ o. option_map_or (is_wanted files failures d real place.router place.len part slot) o false) (sym found)
