-- Where the OSPF routes of a routing come from.
use Rattle.std.specs.Prelude.{◌≡◌, ℕ, All, List, Some, slice_get}
use Rattle.mw_text.specs.declared.address.Prefix.{Prefix}
use Rattle.ios_ast.specs.declared.file.File.{File}
use Rattle.ios_ast.specs.declared.ospf.Ospf.{Ospf}
use Rattle.route_record.specs.declared.Failures.{Failures}
use Rattle.route_record.specs.declared.OspfRec.{OspfRec}
use Rattle.route_record.specs.declared.Slot.{Slot}
use Rattle.route_record.specs.declared.Tables.{Tables}
use Rattle.route_record.specs.Places.{slot_at}
use Rattle.net_parts.specs.OspfRoutes.{own_origins}

-- P is true of all that the processes of the routers originate for the prefix
abbrev pub AreOrigins : List File → Failures → Tables → Prefix → (OspfRec → Type 0) → Type 0
AreOrigins files failures tables p P =
    (router : ℕ) (file : File) (process : Ospf) (slot : Slot) → slice_get files router ≡ Some file →
    file.ospf ≡ Some process → slot_at tables router p.len ≡ Some slot →
    All P (own_origins files failures router file process p slot)

-- P stays true of a route that costs more or less
abbrev pub IsKept : (OspfRec → Type 0) → Type 0
IsKept P = (r : OspfRec) (cost : ℕ) → P r → P (record r { cost = cost })
