-- The own origins of a router by its place are those of its process.
use Rattle.std.proofs.Common.{◌≡◌, ℕ, List, Some, refl}
use Rattle.std.specs.Prelude.{slice_get}
use Rattle.mw_text.specs.declared.address.Prefix.{Prefix}
use Rattle.ios_ast.specs.declared.file.File.{File}
use Rattle.ios_ast.specs.declared.ospf.Ospf.{Ospf}
use Rattle.route_record.specs.declared.Failures.{Failures}
use Rattle.route_record.specs.declared.Slot.{Slot}
use Rattle.net_parts.specs.OspfRoutes.{own_origins}
use Rattle.route_candidates.specs.Origins.{origins_at}

-- by the slot of the router
pub origins_of : (files : List File) (failures : Failures) (router : ℕ) (file : File) (process : Ospf) (p : Prefix)
    (slot : Slot) →
    slice_get files router ≡ Some file → file.ospf ≡ Some process →
    own_origins files failures router file process p slot ≡ origins_at files failures router p slot
unfolding own_origins
origins_of files failures router file process p slot in_file runs = rw in_file (rw runs refl)
