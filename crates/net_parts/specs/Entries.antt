-- The entry of a router's table for one prefix, from all sources (RFC 1812, section 5.2.4; administrative distances as
-- Cisco IOS has them).
use Rattle.std.specs.Prelude.{ℕ, Bool, false, List, ◌++◌, Option, Some, None, option_and_then, option_map}
use Rattle.std.specs.Prelude.{if◌then◌else◌}
use Rattle.std.specs.Option.{option_map_or, option_to_list}
use Rattle.mw_text.specs.declared.address.Prefix.{Prefix}
use Rattle.ios_ast.specs.declared.file.File.{File}
use Rattle.route_record.specs.declared.Failures.{Failures}
use Rattle.route_record.specs.declared.RibEntry.{RibEntry}
use Rattle.route_record.specs.declared.RibSource.TheVariants.{Ebgp, Ospf, Ibgp}
use Rattle.route_record.specs.declared.Slot.{Slot}
use Rattle.net_parts.specs.Exports.{learnt_over}
use Rattle.net_parts.specs.OspfRoutes.{is_own}
use Rattle.net_parts.specs.Routing.{candidates, least_distance, up_interfaces}

-- a held BGP route that was learnt: distance 20 over an external session, 200 over an internal one
abbrev pub bgp_entry : List File → ℕ → Slot → Option RibEntry
bgp_entry files router slot =
    option_and_then (λ held. option_map (λ end.
    if end.internal then record { source = Ibgp; distance = 200 } else record { source = Ebgp; distance = 20 })
    (learnt_over files router held.from)) slot.bgp

-- a held OSPF record, with distance 110, unless an own origin is as good
abbrev pub ospf_entry : Bool → Slot → Option RibEntry
ospf_entry own slot =
    option_and_then (λ held. if own then None else Some (record { source = Ospf; distance = 110 })) slot.ospf

-- the entry of the table, where `own` says that an own origin is as good as the held OSPF record
unfoldable pub entry_with : List File → Failures → ℕ → File → Prefix → Slot → Bool → Option RibEntry
entry_with files failures router file p slot own =
    least_distance (candidates (up_interfaces files failures router) file.statics p
    ++ option_to_list (bgp_entry files router slot) ++ option_to_list (ospf_entry own slot))

-- an own origin is as good as the OSPF record that the slot holds
abbrev pub own_is_as_good : List File → Failures → ℕ → File → Prefix → Slot → Bool
own_is_as_good files failures router file p slot =
    option_map_or (is_own files failures router file p slot) slot.ospf false

-- the entry for that prefix
abbrev pub table_entry : List File → Failures → ℕ → File → Prefix → Slot → Option RibEntry
table_entry files failures router file p slot =
    entry_with files failures router file p slot (own_is_as_good files failures router file p slot)
