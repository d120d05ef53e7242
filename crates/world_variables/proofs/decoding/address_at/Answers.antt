use Rattle.std.proofs.Common.{◌≡◌, ◌*◌, ◌/◌, ◌<◌, ◌^◌, ap, arith, subst}
use Rattle.mw_text.specs.declared.address.Prefix.{Prefix}
use Rattle.mw_text.specs.Address.{block}
use Rattle.world_variables.proofs.DecodingSteps.{address_fits}
use Rattle.world_variables.proofs.decoding.address_at.Goals as goal

pub overflow_add-result : goal.overflow_add-result
overflow_add-result c =
    let first : c.prefix_of-first.result.addr.0 ≡ c.args.addr / block c.args.len * block c.args.len =
    ap (λ (p : Prefix). p.addr.0) c.prefix_of-first.ensures in
    let small : c.number_at.result < block c.args.len =
    subst (λ k. c.number_at.result < 2 ^ k) c.saturating_sub-free.ensures c.number_at.ensures.small in
    let fits = address_fits c.number_at.result c.args.addr c.args.len small (omega (arith, c.ranges.addr.fits)) in
    omega (arith, fits, first)
