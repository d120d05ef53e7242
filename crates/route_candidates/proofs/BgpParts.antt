-- The local routes of a router by its place are those of its process.
use Rattle.std.proofs.Common.{◌≡◌, ℕ, List, [], Option, Some, None, refl}
use Rattle.std.specs.Prelude.{slice_get}
use Rattle.std.specs.Option.{option_map_or}
use Rattle.mw_text.specs.declared.address.Prefix.{Prefix}
use Rattle.ios_ast.specs.declared.bgp.Bgp.{Bgp}
use Rattle.ios_ast.specs.declared.file.File.{File}
use Rattle.route_record.specs.declared.Slot.{Slot}
use Rattle.net_parts.specs.Origins.{local_routes}
use Rattle.proto_rib.specs.Taken.{local_routes_at}

-- by its slot, if it has one
pub local_of : (files : List File) (router : ℕ) (file : File) (process : Bgp) (p : Prefix) (held : Option Slot) →
    slice_get files router ≡ Some file → file.bgp ≡ Some process →
    option_map_or (local_routes_at files router p) held []
    ≡ option_map_or (local_routes files router file process p) held []
local_of files router file process p None in_file runs = refl
local_of files router file process p (Some slot) in_file runs = rw in_file (rw runs refl)
