use Rattle.std.proofs.Common.{◌≡◌, ◌+◌, ◌<◌, ◌^◌, arith, subst, sym}
use Rattle.world_variables.proofs.FieldSteps.{address_fits}
use Rattle.world_variables.proofs.fields.address_within.Goals as goal

pub returns-clause-fits : goal.returns-clause-fits
returns-clause-fits c =
    subst (λ n. n < 2 ^ c.args.whole) (sym c.address_number.ensures)
    (address_fits c.args.addr c.args.whole (omega (arith, c.ranges.addr.fits)) c.requires)
