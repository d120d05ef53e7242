-- What the OSPF process of the router at a place originates.
use Rattle.std.specs.Prelude.{ℕ, List, ◌++◌, map}
use Rattle.mw_text.specs.declared.address.Prefix.{Prefix}
use Rattle.ios_ast.specs.declared.file.File.{File}
use Rattle.route_record.specs.declared.Failures.{Failures}
use Rattle.route_record.specs.declared.OspfKind.TheVariants.{Internal}
use Rattle.route_record.specs.declared.OspfRec.{OspfRec}
use Rattle.route_record.specs.declared.Slot.{Slot}
use Rattle.net_parts.specs.Ospf.{origin_interfaces}
use Rattle.proto_rib.specs.Taken.{redistributed_at}

-- by its interfaces
abbrev pub internal_origins : List File → Failures → ℕ → Prefix → List OspfRec
internal_origins files failures router p =
    map (λ x. record { kind = Internal; metric = 0; cost = x.cost }) (origin_interfaces files failures router p)

-- by these and by what it takes from its own table
abbrev pub origins_at : List File → Failures → ℕ → Prefix → Slot → List OspfRec
origins_at files failures router p slot = internal_origins files failures router p
    ++ redistributed_at files router p slot
