use Rattle.std.proofs.Common.{◌≡◌, ◌++◌, drop, map}
use Rattle.serde_json.specs.View.{view}
use Rattle.cex_json.specs.Parts.{addr_data}
use Rattle.cex_json.proofs.routes.addr_values.Given as goal

-- the values so far and those of the addresses that are left are all
abbrev pub invariant-loop-a : goal.invariant-loop-a
invariant-loop-a l =
    map view l.values.items ++ map addr_data (drop l.a-index l.addresses) ≡ map addr_data l.addresses
