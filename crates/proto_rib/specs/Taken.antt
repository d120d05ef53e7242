-- What the processes of a router take from its own table.
use Rattle.std.specs.Prelude.{ℕ, Bool, List, [], Option, option_and_then, slice_get}
use Rattle.std.specs.Option.{option_map_or}
use Rattle.mw_text.specs.declared.address.Prefix.{Prefix}
use Rattle.ios_ast.specs.declared.file.File.{File}
use Rattle.route_record.specs.declared.BgpRec.{BgpRec}
use Rattle.route_record.specs.declared.Failures.{Failures}
use Rattle.route_record.specs.declared.OspfRec.{OspfRec}
use Rattle.route_record.specs.declared.RibEntry.{RibEntry}
use Rattle.route_record.specs.declared.Slot.{Slot}
use Rattle.net_parts.specs.Entries.{entry_with}
use Rattle.net_parts.specs.Origins.{local_routes, redistributed}

-- the local routes of the BGP process of the router at that place, none where it runs no BGP
abbrev pub local_routes_at : List File → ℕ → Prefix → Slot → List BgpRec
local_routes_at files router p slot =
    option_map_or (λ file. option_map_or (λ process. local_routes files router file process p slot) file.bgp [])
    (slice_get files router) []

-- what its OSPF process takes, none where it runs no OSPF
abbrev pub redistributed_at : List File → ℕ → Prefix → Slot → List OspfRec
redistributed_at files router p slot =
    option_map_or (λ file. option_map_or (λ process. redistributed file process p slot) file.ospf [])
    (slice_get files router) []

-- the entry of the router at that place
abbrev pub entry_at : List File → Failures → ℕ → Prefix → Slot → Bool → Option RibEntry
entry_at files failures router p slot own =
    option_and_then (λ file. entry_with files failures router file p slot own) (slice_get files router)
