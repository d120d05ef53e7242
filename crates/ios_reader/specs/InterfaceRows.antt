-- What a line of an interface block does to the interface (Cisco IOS command references).
use Rattle.std.specs.Prelude.{ℕ, ◌==◌, Bool, true, false, List, is_some, Option, Some, None, Result, Ok, Err}
use Rattle.std.specs.Prelude.{if◌then◌else◌}
use Rattle.mw_text.specs.declared.words.Line.{Line}
use Rattle.ios_ast.specs.declared.file.Iface.{Iface}
use Rattle.ios_ast.specs.declared.file.Use.{Use}
use Rattle.ios_policy_reader.specs.declared.cause.Cause.{Cause}
use Rattle.ios_policy_reader.specs.declared.cause.Cause.TheVariants.{Repeated}
use Rattle.ios_policy_reader.specs.declared.heads.Row.{Row}
use Rattle.ios_policy_reader.specs.declared.heads.Row.TheVariants.{Address, NoAddress, Shutdown, NoShutdown, Bandwidth}
use Rattle.ios_policy_reader.specs.declared.heads.Row.TheVariants.{OspfCost, AccessGroup}
use Rattle.ios_policy_reader.specs.declared.said.Tag.TheVariants.{Number, Name, Direction}
use Rattle.ios_policy_reader.specs.declared.said.Said.{Said}
use Rattle.ios_policy_reader.specs.Said.{number_under}
use Rattle.ios_reader.specs.declared.draft.Seen.{Seen}
use Rattle.mw_text.specs.Reading.{following}
use Rattle.ios_reader.specs.Names.{use_under}
use Rattle.ios_reader.specs.Interfaces.{address_of}

-- an address is written once, also where `no ip address` took it away since
abbrev pub with_address : ℕ → List Said → Iface → Seen → Result (Iface × Seen) Cause
with_address line said iface seen =
    if seen.address then Err Repeated
    else Ok (record iface { address = Some (address_of line said) }, record seen { address = true })

-- a bandwidth is written once
abbrev pub with_bandwidth : List Said → Iface → Seen → Result (Iface × Seen) Cause
with_bandwidth said iface seen =
    if seen.bandwidth then Err Repeated
    else Ok (record iface { bandwidth = number_under Number said 0 }, record seen { bandwidth = true })

-- a cost is written once
abbrev pub with_cost : List Said → Iface → Result Iface Cause
with_cost said iface =
    if is_some iface.cost then Err Repeated
    else Ok (record iface { cost = Some (number_under Number said 0) })

abbrev pub is_inward : List Said → Bool
is_inward said = number_under Direction said 0 == 1

-- the access list that a line names, where none was named before
abbrev pub named_once : Line → List Said → Option Use → Result (Option Use) Cause
named_once line said old = if is_some old then Err Repeated else Ok (Some (use_under Name said line))

-- an access list is written once a direction
abbrev pub with_list : Line → List Said → Iface → Result Iface Cause
with_list line said iface =
    if is_inward said
    then following (λ list. Ok (record iface { list_in = list })) (named_once line said iface.list_in)
    else following (λ list. Ok (record iface { list_out = list })) (named_once line said iface.list_out)

abbrev pub still : Seen → Result Iface Cause → Result (Iface × Seen) Cause
still seen changed = following (λ iface. Ok (iface, seen)) changed

-- a line of an interface block; a row that is ignored changes nothing
abbrev pub interface_row : Row → Line → List Said → Iface → Seen → Result (Iface × Seen) Cause
interface_row Address line said iface seen = with_address line.number said iface seen
interface_row NoAddress line said iface seen = Ok (record iface { address = None }, seen)
interface_row Shutdown line said iface seen = Ok (record iface { shutdown = true }, seen)
interface_row NoShutdown line said iface seen = Ok (record iface { shutdown = false }, seen)
interface_row Bandwidth line said iface seen = with_bandwidth said iface seen
interface_row OspfCost line said iface seen = still seen (with_cost said iface)
interface_row AccessGroup line said iface seen = still seen (with_list line said iface)
interface_row _ line said iface seen = Ok (iface, seen)
