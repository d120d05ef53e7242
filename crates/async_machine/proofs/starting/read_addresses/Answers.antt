use Rattle.std.proofs.Common.{All, arith, subst}
use Rattle.std.proofs.lemmas.List.{take_all}
use Rattle.std.proofs.lemmas.List.Elements.{All-more}
use Rattle.route_record.specs.Fits.{IsAddress}
use Rattle.async_machine.proofs.starting.read_addresses.Goals as goal

pub loop-address-preserved : goal.loop-address-preserved
loop-address-preserved c =
    let within = c.loop-address-test.true in
    let last = c.loop-address.auto.address-index-end in
    All-more IsAddress c.args.addresses.now c.loop-address.address-index _ (omega (arith, within, last))
    c.loop-address.invariant c.read_address.ensures

pub returns : goal.returns
returns c =
    let past = c.loop-address-test.false in
    let last = c.loop-address.auto.address-index-end in
    subst (All IsAddress) (take_all c.loop-address.address-index c.args.addresses.now (omega (arith, past, last)))
    c.loop-address.invariant
