use Rattle.std.proofs.Common.{All, take}
use Rattle.route_record.specs.Fits.{IsAddress}
use Rattle.async_machine.proofs.starting.read_addresses.Given as goal

-- those read so far fit
abbrev pub invariant-loop-address : goal.invariant-loop-address
invariant-loop-address l = All IsAddress (take l.address-index l.addresses)
